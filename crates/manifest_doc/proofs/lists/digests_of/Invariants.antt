use Rattle.std.proofs.Common.{◌≡◌, ℕ, List}
use Rattle.std.specs.Prelude.{◌||◌}
use Rattle.std.specs.Ordering.{nat_cmp}
use Rattle.std.specs.Cmp.Lexicographic.{slice_cmp}
use Rattle.std.specs.BTreeSet as set
use Rattle.std.specs.List.{list_any}
use Rattle.std.specs.Vec.Iter.{into_iter_items}
use Rattle.manifest_doc.specs.Documents.{is_of}
use Rattle.manifest_doc.proofs.lists.digests_of.Given as goal

-- the digests so far, with those that are left
abbrev pub invariant-loop-descriptor : goal.invariant-loop-descriptor
invariant-loop-descriptor l = (q : List ℕ) → (set.contains (slice_cmp nat_cmp) l.digests q || list_any (is_of q) (into_iter_items l.descriptor-iterator)) ≡ list_any (is_of q) l.fn.descriptors.items
