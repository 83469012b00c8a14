use Rattle.link_paths.specs.declared.place.Place.TheVariants.{BlobData}
use Rattle.link_paths.specs.Places.{place_path}
use Rattle.link_paths.proofs.PlaceParts.{IsPath-place_path}
use Rattle.link_paths.proofs.paths.data_path.Goals as goal

pub path-requires : goal.path-requires
unfolding place_path
path-requires c =
    rw (c.deref.ensures, c.in_ok-format.ensures.ok, c.in_ok-first.ensures.digits, c.in_ok-digits.ensures.digits)
    (IsPath-place_path (BlobData c.args.digest.now) c.digits_of.ensures.digest)
