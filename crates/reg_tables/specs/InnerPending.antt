-- The proof's own: no public clause cites what stands here.
-- What calls over a keeper and the changes that wait do.
use Rattle.std.specs.Prelude.{◌≡◌, ℕ, ◌++◌, nat_eq, cond, Bool, true, false, List, [], map, Option, Some, None, Result, OnOk, IsTrue}
use Rattle.std.specs.BTreeMap.{BTreeMap, IsOrdered}
use Rattle.std.specs.Cmp.Lexicographic.{slice_cmp, pointwise}
use Rattle.std.specs.Ordering.{nat_cmp}
use Rattle.std.specs.List.{AllByRecursion, list_any}
use Rattle.reg_names.specs.Named.{has_digest}
use Rattle.keeper_api.specs.declared.change.Change.{Change}
use Rattle.keeper_api.specs.declared.change.Change.TheVariants as change
use Rattle.keeper_api.specs.Changes.{after, ArePutsFit}
use Rattle.keeper_api.specs.Rows.{Rows, Kept, is_at, is_below}
use Rattle.keeper_api.specs.Tables.{Fits}
use Rattle.reg_journal.specs.Past.{Past}
use Rattle.reg_tables.specs.Derived.{with_past}

-- ---- what keys hold once the changes are made

-- the change of a key, by what the key holds then: a row, or none
abbrev pub change_of : List ℕ → Option (List ℕ) → Change
change_of key (Some row) = change.Put key row
change_of key None = change.Drop key

abbrev pub changes_of : List (List ℕ × Option (List ℕ)) → List Change
changes_of waiting = map (λ w. change_of w.0 w.1) waiting

-- the keys ascend, and each row that waits may stand at its key
pub record WaitInOrder (waiting : BTreeMap (List ℕ) (Option (List ℕ))) : Type 0 where
  pub ascend : IsOrdered (slice_cmp nat_cmp) waiting
  pub fit : ArePutsFit (changes_of waiting.entries)

-- ---- parts of keys behind a front

-- whether a row stands, and is this one where one is asked for
abbrev pub is_wanted : Option (List ℕ) → Option (List ℕ) → Bool
is_wanted wanted None = false
is_wanted None (Some row) = true
is_wanted (Some asked) (Some row) = pointwise nat_eq row asked

-- these are the parts that keys have behind the front, where the rows there are wanted
abbrev pub ArePartsBehind : List ℕ → Option (List ℕ) → Rows → List (List ℕ) → Type 0
ArePartsBehind front wanted rows parts =
    (part : List ℕ) → IsTrue (is_below [] part) → has_digest part parts ≡ is_wanted wanted (rows (front ++ part))

-- each of them may stand there
abbrev pub MayStandBehind : List ℕ → List (List ℕ) → Type 0
MayStandBehind front parts = AllByRecursion (λ part. (row : List ℕ) × Fits (front ++ part) row) parts

-- whether a change puts a row at the key, and whether one of some changes does
abbrev pub puts : List ℕ → Change → Bool
puts key (change.Put at row) = is_at at key
puts key (change.Drop at) = false

abbrev pub is_put : List ℕ → List Change → Bool
is_put key changes = list_any (puts key) changes

-- the rows without those of keys that have one of these parts behind the front
abbrev pub without_parts : List ℕ → List (List ℕ) → Rows → Rows
without_parts front parts rows = λ key. cond (list_any (λ part. is_at (front ++ part) key) parts) None (rows key)

-- ---- steps

-- Where the rows after the changes so far are those of what a journal left, they are those of the step's outcome
-- after the further changes, over other rows where the step says so.
abbrev pub Works : Rows → List Change → List Change → (Past → Past) → (Rows → Rows) → Type 0
Works rows old new step other =
    (past : Past) (base : Rows) → after rows old ≡ with_past past base → after rows new ≡ with_past (step past) (other base)

-- a call takes the step, where the keeper tells its rows
abbrev pub Takes : {A E : Type 0} → Kept → Result A E → List Change → List Change → (Past → Past) → (Rows → Rows) → Type 0
Takes kept result old new step other = IsTrue kept.tells → OnOk result (Works kept.rows old new step other)

-- a call that reads nothing takes the step
abbrev pub Makes : {A E : Type 0} → Result A E → List Change → List Change → (Past → Past) → Type 0
Makes result old new step = OnOk result ((rows : Rows) → Works rows old new step (λ r. r))
