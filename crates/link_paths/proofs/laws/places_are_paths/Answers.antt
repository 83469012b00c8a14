use Rattle.link_paths.proofs.PlaceParts.{IsPath-place_path}
use Rattle.link_paths.proofs.laws.places_are_paths.Goals as goal

pub returns : goal.returns
returns c = IsPath-place_path
