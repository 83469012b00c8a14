use Rattle.std.proofs.Common.{lit≤}
use Rattle.link_paths.proofs.PlaceParts.{index_spelled, IsTail-spelled}
use Rattle.link_paths.proofs.paths.tag_index_path.Goals as goal

pub in_repository-requires-clause-inside : goal.in_repository-requires-clause-inside
in_repository-requires-clause-inside c =
    rw (c.deref.ensures, c.in_ok-format.ensures.ok, c.as_str-tag.ensures.bytes, c.in_ok-digits.ensures.digits)
    (IsTail-spelled (index_spelled c.args.tag.now c.args.digest.now c.as_str-tag.ensures.tag c.digits_of.ensures.digest) (lit≤ tt))
