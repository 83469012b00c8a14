-- The proof's own: no public clause cites what stands here.
-- What a commit does to the slots of a keeper in memory.
use Rattle.std.specs.Prelude.{◌≡◌, ℕ, Bool, true, false, List, [], ◌∷◌, map, Option, Some, None, is_some, IsTrue}
use Rattle.std.specs.List.{list_any, AllByRecursion}
use Rattle.keeper_api.specs.declared.change.Change.{Change}
use Rattle.keeper_api.specs.declared.change.Change.TheVariants as change
use Rattle.keeper_api.specs.Rows.{Rows, is_at, with_row, key_of}
use Rattle.keeper_api.specs.Slots.{Slot, Slotted}
use Rattle.keeper_api.specs.InnerTables.{may_stand}

-- what is in a slot may stand at its key; and it may be empty, or not
abbrev pub is_held : Bool → List ℕ → Slot → Bool
is_held empty key None = true
is_held empty key (Some None) = empty
is_held empty key (Some (Some row)) = may_stand key row

abbrev pub among : List ℕ → List (List ℕ) → Bool
among key keys = list_any (λ other. is_at other key) keys

-- no slot is empty but those of these keys
abbrev pub IsHeldBut : List (List ℕ) → Slotted → Type 0
IsHeldBut keys slots = (key : List ℕ) → is_held (among key keys) key (slots key) ≡ true

-- there is a slot
abbrev pub HasSlot : Slotted → List ℕ → Type 0
HasSlot slots key = is_some (slots key) ≡ true

-- a slot without a row
abbrev pub is_empty : Slot → Bool
is_empty None = false
is_empty (Some None) = true
is_empty (Some (Some row)) = false

-- what a change leaves in the slot of its key
abbrev pub outcome_of : Change → List ℕ × Option (List ℕ)
outcome_of (change.Put key row) = (key, Some row)
outcome_of (change.Drop key) = (key, None)

abbrev pub outcomes_of : List Change → List (List ℕ × Option (List ℕ))
outcomes_of changes = map outcome_of changes

abbrev pub keys_of : List Change → List (List ℕ)
keys_of changes = map key_of changes

-- the rows, with these put over them in turn
abbrev pub with_outcomes : Rows → List (List ℕ × Option (List ℕ)) → Rows
with_outcomes rows [] = rows
with_outcomes rows (o ∷ os) = with_outcomes (with_row rows o.0 o.1) os

-- each of them may stand at its key
abbrev pub AreHeld : List (List ℕ × Option (List ℕ)) → Type 0
AreHeld outcomes = AllByRecursion (λ o. is_held true o.0 (Some o.1) ≡ true) outcomes

-- there is a slot for each of them
abbrev pub HaveSlots : Slotted → List (List ℕ × Option (List ℕ)) → Type 0
HaveSlots slots outcomes = AllByRecursion (λ o. HasSlot slots o.0) outcomes

-- the key of each of them is among these
abbrev pub AreAmong : List (List ℕ) → List (List ℕ × Option (List ℕ)) → Type 0
AreAmong keys outcomes = AllByRecursion (λ o. IsTrue (among o.0 keys)) outcomes
