-- The slots of a keeper in memory: at each key a row, or none yet while a commit is under way.
use Rattle.std.specs.Prelude.{ℕ, List, Option, Some, None}
use Rattle.std.specs.Ordering.{nat_cmp}
use Rattle.std.specs.Cmp.Lexicographic.{slice_cmp}
use Rattle.std.specs.BTreeMap as tree
use Rattle.std.specs.BTreeMap.{BTreeMap}
use Rattle.keeper_api.specs.Rows.{Rows}

abbrev pub Slot : Type 0
Slot = Option (Option (List ℕ))

abbrev pub Slotted : Type 0
Slotted = List ℕ → Slot

abbrev pub slots_in : BTreeMap (List ℕ) (Option (List ℕ)) → Slotted
slots_in slots = tree.get (slice_cmp nat_cmp) slots

-- the row in a slot
abbrev pub content : Slot → Option (List ℕ)
content None = None
content (Some slot) = slot

abbrev pub rows_in : BTreeMap (List ℕ) (Option (List ℕ)) → Rows
rows_in slots = λ key. content (slots_in slots key)
