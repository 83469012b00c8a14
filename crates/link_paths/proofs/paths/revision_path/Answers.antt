use Rattle.std.proofs.Common.{lit≤}
use Rattle.link_paths.proofs.PlaceParts.{revision_spelled, IsTail-spelled}
use Rattle.link_paths.proofs.paths.revision_path.Goals as goal

pub in_repository-requires-clause-inside : goal.in_repository-requires-clause-inside
in_repository-requires-clause-inside c =
    rw (c.deref.ensures, c.in_ok-format.ensures.ok, c.in_ok-digits.ensures.digits)
    (IsTail-spelled (revision_spelled c.args.digest.now c.digits_of.ensures.digest) (lit≤ tt))
