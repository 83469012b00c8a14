use Rattle.link_reading.proofs.MeaningLaws.{tag_there}
use Rattle.link_reading.proofs.laws.tags_point_to_manifests.Goals as goal

pub returns : goal.returns
returns c = tag_there
