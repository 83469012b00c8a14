use Rattle.std.proofs.Common.{◌≡◌, ℕ, List, take}
use Rattle.std.specs.BTreeMap as tree
use Rattle.std.specs.Ordering.{nat_cmp}
use Rattle.std.specs.Cmp.Lexicographic.{slice_cmp}
use Rattle.reg_names.specs.Named.{has_digest, digests_of}
use Rattle.reg_plain.specs.InnerChanges.{known_where}
use Rattle.reg_plain.proofs.touches.touch_digests.Given as goal

abbrev pub invariant-loop-named : goal.invariant-loop-named
invariant-loop-named l = (other : List ℕ) → tree.get (slice_cmp nat_cmp) l.digests other
    ≡ known_where (has_digest other (digests_of (take l.named-index l.fn.named))) l.now (tree.get (slice_cmp nat_cmp) l.fn.digests other)
