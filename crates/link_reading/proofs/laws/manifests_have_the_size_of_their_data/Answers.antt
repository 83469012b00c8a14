use Rattle.link_reading.proofs.MeaningLaws.{size_is}
use Rattle.link_reading.proofs.laws.manifests_have_the_size_of_their_data.Goals as goal

pub returns : goal.returns
returns c = size_is
