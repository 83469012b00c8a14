use Rattle.reg_plain.proofs.MapLaws.{learnt}
use Rattle.reg_plain.proofs.touches.learn.Goals as goal

pub returns-clause-learnt : goal.returns-clause-learnt
returns-clause-learnt c = learnt c.args.digests.now c.insert.new.self c.args.digest c.args.known c.in_ok-insert.ensures.updates
