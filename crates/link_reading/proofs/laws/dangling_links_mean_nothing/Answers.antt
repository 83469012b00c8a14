use Rattle.link_reading.proofs.MeaningLaws.{dangles}
use Rattle.link_reading.proofs.laws.dangling_links_mean_nothing.Goals as goal

pub returns : goal.returns
returns c = dangles
