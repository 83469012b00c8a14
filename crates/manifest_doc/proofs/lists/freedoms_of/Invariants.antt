use Rattle.std.proofs.Common.{◌≡◌, None}
use Rattle.std.specs.Ordering.{nat_cmp}
use Rattle.std.specs.Cmp.Lexicographic.{slice_cmp}
use Rattle.std.specs.BTreeMap as tree
use Rattle.std.specs.Vec.Iter.{into_iter_items}
use Rattle.manifest_doc.proofs.FreedomLaws.{with_layers, with_config}
use Rattle.manifest_doc.proofs.lists.freedoms_of.Given as goal

-- what was gathered so far, with the layers that are left, is what all tell
abbrev pub invariant-loop-layer : goal.invariant-loop-layer
invariant-loop-layer l = with_layers (tree.get (slice_cmp nat_cmp) l.freedoms) (into_iter_items l.layer-iterator) ≡ with_layers (with_config (λ _. None) l.fn.config) l.fn.layers.items
