use Rattle.link_reading.proofs.MeaningLaws.{mean_nothing}
use Rattle.link_reading.proofs.laws.files_without_links_mean_nothing.Goals as goal

pub returns : goal.returns
returns c = mean_nothing
