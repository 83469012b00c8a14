use Rattle.std.proofs.Common.{lit≤}
use Rattle.link_paths.proofs.PlaceParts.{current_spelled, IsTail-spelled}
use Rattle.link_paths.proofs.paths.tag_path.Goals as goal

pub in_repository-requires-clause-inside : goal.in_repository-requires-clause-inside
in_repository-requires-clause-inside c =
    rw (c.deref.ensures, c.in_ok-format.ensures.ok, c.as_str-tag.ensures.bytes)
    (IsTail-spelled (current_spelled c.args.tag.now c.as_str-tag.ensures.tag) (lit≤ tt))
