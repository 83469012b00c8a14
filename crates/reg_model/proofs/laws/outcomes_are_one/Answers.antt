use Rattle.reg_model.proofs.ChangingLaws.{starts_alone, pushes_alone, drops_alone, unlinks_alone}
use Rattle.reg_model.proofs.laws.outcomes_are_one.Goals as goal

pub returns : goal.returns
returns c = record { starts = starts_alone; pushes = pushes_alone; drops = drops_alone; unlinks = unlinks_alone }
