use Rattle.std.proofs.Common.{◌≡◌, ℕ, List, take}
use Rattle.std.specs.Prelude.{IsTrue, IsSome}
use Rattle.std.specs.BTreeMap as tree
use Rattle.std.specs.Ordering.{nat_cmp}
use Rattle.std.specs.Cmp.Lexicographic.{slice_cmp}
use Rattle.reg_names.specs.Named.{has_digest, digests_of}
use Rattle.reg_plain.specs.InnerChanges.{known_in}
use Rattle.reg_plain.proofs.touches.note_all.Given as goal

abbrev pub invariant-loop-named : goal.invariant-loop-named
invariant-loop-named l = record {
  same : (other : List ℕ) → known_in l.digests other ≡ known_in l.fn.digests other;
  noted : (other : List ℕ) → IsTrue (has_digest other (digests_of (take l.named-index l.fn.named))) → IsSome (tree.get (slice_cmp nat_cmp) l.digests other);
}
