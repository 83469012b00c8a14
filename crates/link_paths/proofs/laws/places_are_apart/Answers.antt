use Rattle.link_paths.proofs.ApartPlaces.{same_place}
use Rattle.link_paths.proofs.laws.places_are_apart.Goals as goal

pub returns : goal.returns
returns c = same_place
