use Rattle.link_paths.proofs.PlaceParts.{parts_of_place}
use Rattle.link_paths.proofs.laws.places_by_parts.Goals as goal

pub returns : goal.returns
returns c = parts_of_place
