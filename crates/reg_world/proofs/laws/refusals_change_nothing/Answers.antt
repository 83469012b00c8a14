use Rattle.reg_world.proofs.RefusalLaws.{nothing_changed}
use Rattle.reg_world.proofs.laws.refusals_change_nothing.Goals as goal

pub returns : goal.returns
returns c = nothing_changed
