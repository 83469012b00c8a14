-- The proof's own: no public clause cites what stands here.
use Rattle.std.specs.Prelude.{◌≡◌, ℕ, ◌&&◌, List, [], ◌∷◌, Option}
use Rattle.std.specs.Ordering.{is_le}
use Rattle.std.specs.declared.ops.Bound.{Bound}
use Rattle.std.specs.BTreeMap.Range.{is_from_start}
use Rattle.depot_api.specs.Paths.{path_cmp}
use Rattle.depot_api.specs.Pages.{is_after}
use Rattle.depot_api.specs.declared.memory.slots.Slot.{Slot}
use Rattle.depot_api.specs.declared.memory.slots.Slot.TheVariants.{Whole, Lent}

-- a range starts at the paths that are above `after` and not below `under`
abbrev pub StartsAt : Bound (List (List ℕ)) → List (List ℕ) → Option (List (List ℕ)) → Type 0
StartsAt lo under after =
    (q : List (List ℕ)) → is_from_start path_cmp lo q ≡ (is_le (path_cmp under q) && is_after after q)

-- files, with what stands at p before them, where that is a file
abbrev pub with_whole : List (List ℕ) → Slot → List (List (List ℕ) × List ℕ) → List (List (List ℕ) × List ℕ)
with_whole p (Whole bytes) rest = (p, bytes) ∷ rest
with_whole p Lent rest = rest

-- the files among what stands at paths
abbrev pub wholes : List (List (List ℕ) × Slot) → List (List (List ℕ) × List ℕ)
wholes [] = []
wholes (e ∷ es) = with_whole e.0 e.1 (wholes es)
