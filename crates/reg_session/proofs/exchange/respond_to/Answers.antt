use Rattle.std.proofs.Common.{Ok, ap, ◌∙◌}
use Rattle.reg_session.proofs.DecidingLaws.{single_by}
use Rattle.reg_session.proofs.exchange.respond_to.Goals as goal

pub push-requires-clause-asked : goal.push-requires-clause-asked
push-requires-clause-asked g c = c.requires.asked ∙ ap Ok c.in-PutManifest.is

pub returns-in-PutManifest-clause-responds : goal.returns-in-PutManifest-clause-responds
returns-in-PutManifest-clause-responds g c = c.push.ensures.responds _ _

pub upload-requires-clause-asked : goal.upload-requires-clause-asked
upload-requires-clause-asked g c = c.requires.asked ∙ ap Ok c.in-Patch.is

pub returns-in-Patch-clause-responds : goal.returns-in-Patch-clause-responds
returns-in-Patch-clause-responds g c = c.upload.ensures.responds _ _

pub upload-requires-in-Finish-clause-asked : goal.upload-requires-in-Finish-clause-asked
upload-requires-in-Finish-clause-asked g c = c.requires.asked ∙ ap Ok c.in-Finish.is

pub returns-in-Finish-clause-responds : goal.returns-in-Finish-clause-responds
returns-in-Finish-clause-responds g c = c.upload-in-Finish.ensures.responds _ _

pub single-requires-clause-single : goal.single-requires-clause-single
single-requires-clause-single g c = single_by c.args.ask.now c.in_default.not-PutManifest c.in_default.not-Patch c.in_default.not-Finish
