use Rattle.std.proofs.Common.{lit≤}
use Rattle.link_paths.specs.Places.{place_path}
use Rattle.link_paths.proofs.PlaceParts.{layer_spelled, IsTail-spelled}
use Rattle.link_paths.proofs.paths.layer_path.Goals as goal

pub in_repository-requires-clause-inside : goal.in_repository-requires-clause-inside
in_repository-requires-clause-inside c =
    rw (c.deref.ensures, c.in_ok-format.ensures.ok, c.in_ok-digits.ensures.digits)
    (IsTail-spelled (layer_spelled c.args.digest.now c.digits_of.ensures.digest) (lit≤ tt))

pub returns-clause-path : goal.returns-clause-path
unfolding place_path
returns-clause-path c = rw (c.as_str-name.ensures.bytes, c.deref.ensures, c.in_ok-format.ensures.ok, c.in_ok-digits.ensures.digits) at c.in_repository.ensures.path
