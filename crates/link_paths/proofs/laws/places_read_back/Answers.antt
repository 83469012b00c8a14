use Rattle.link_paths.proofs.ApartPlaces.{read_back}
use Rattle.link_paths.proofs.laws.places_read_back.Goals as goal

pub returns : goal.returns
returns c = read_back
