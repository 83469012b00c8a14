use Rattle.import_phase.proofs.BoundLaws.{kept_bounded, key_bounded}
use Rattle.import_phase.proofs.laws.phases_are_bounded.Goals as goal

pub returns-clause-read : goal.returns-clause-read
returns-clause-read c = kept_bounded

pub returns-clause-rows : goal.returns-clause-rows
returns-clause-rows c = key_bounded
