use Rattle.link_reading.proofs.MeaningLaws.{manifest_dangles}
use Rattle.link_reading.proofs.laws.dangling_manifests_mean_nothing.Goals as goal

pub returns : goal.returns
returns c = manifest_dangles
