use Rattle.reg_plain.proofs.KnownLaws.{nothing_left}
use Rattle.reg_plain.proofs.state.State.new.Goals as goal

pub returns-clause-left : goal.returns-clause-left
returns-clause-left c = nothing_left c.args.delay c.new.result c.new-2.result c.new-3.result c.new-4.result c.new.ensures.empty c.new-2.ensures.empty c.new-3.ensures.empty c.new-4.ensures.empty
