use Rattle.reg_session.proofs.DecidingLaws.{as_asked, as_plain, plain_single}
use Rattle.reg_session.proofs.deciding.decide.Goals as goal

pub returns-in-GetBlob-clause-decides : goal.returns-in-GetBlob-clause-decides
returns-in-GetBlob-clause-decides g c answer body gives = as_asked c.in-GetBlob.is (c.decide_blob.ensures.decides _ _ answer body gives)

pub decide_plain-requires-clause-single : goal.decide_plain-requires-clause-single
decide_plain-requires-clause-single g c = plain_single c.args.ask.now c.in_default.not-GetBlob c.requires.single

pub returns-in_default-clause-decides : goal.returns-in_default-clause-decides
returns-in_default-clause-decides g c answer body gives = as_plain gives.reply gives.content (c.decide_plain.ensures.decides body)
