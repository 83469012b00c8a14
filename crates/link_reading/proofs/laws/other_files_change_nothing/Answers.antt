use Rattle.link_reading.proofs.MeaningLaws.{change_nothing}
use Rattle.link_reading.proofs.laws.other_files_change_nothing.Goals as goal

pub returns : goal.returns
returns c = change_nothing
