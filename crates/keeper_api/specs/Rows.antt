-- Rows by their keys. A key is the list of its table's number and its bytes, a row the list of its bytes.
use Rattle.std.specs.Prelude.{◌≡◌, ℕ, Bool, cond, List, [], ◌∷◌, Option, Some, None, Result, IfOk, IfSome, IsTrue}
use Rattle.std.specs.Ordering.{is_eq, is_lt, nat_cmp}
use Rattle.std.specs.Cmp.Lexicographic.{slice_cmp}
use Rattle.keeper_api.specs.declared.change.Change.{Change}
use Rattle.keeper_api.specs.declared.change.Change.TheVariants as change

abbrev pub Rows : Type 0
Rows = List ℕ → Option (List ℕ)

-- whether a keeper tells its rows, and the rows
pub record Kept : Type 0 where
  pub tells : Bool
  pub rows : Rows

abbrev pub is_at : List ℕ → List ℕ → Bool
is_at key other = is_eq (slice_cmp nat_cmp key other)

abbrev pub is_below : List ℕ → List ℕ → Bool
is_below key other = is_lt (slice_cmp nat_cmp key other)

-- the rows, with this one at a key, or without one there
abbrev pub with_row : Rows → List ℕ → Option (List ℕ) → Rows
with_row rows key row = λ other. cond (is_at key other) row (rows other)

-- the number of a key's table
abbrev pub table_of : List ℕ → ℕ
table_of [] = 0
table_of (table ∷ key) = table

-- the key whose row a change changes
abbrev pub key_of : Change → List ℕ
key_of (change.Put key row) = key
key_of (change.Drop key) = key

-- a key of the same table, above another
pub record IsAbove (after key : List ℕ) : Type 0 where
  pub table : table_of key ≡ table_of after
  pub above : IsTrue (is_below after key)

-- the row at the least key of the same table above another, and none only where there is no such key
abbrev pub IsNextRow : List ℕ → Rows → Option (List ℕ × List ℕ) → Type 0
IsNextRow after rows None = (key : List ℕ) → IsAbove after key → rows key ≡ None
IsNextRow after rows (Some found) =
    IsAbove after found.0
    × (rows found.0 ≡ Some found.1)
    × ((key : List ℕ) → IsAbove after key → IsTrue (is_below key found.0) → rows key ≡ None)

-- the row at a key
abbrev pub IsRowAt : List ℕ → Rows → Option (List ℕ) → Type 0
IsRowAt key rows row = row ≡ rows key

-- this holds of what a call found, where it found something
abbrev pub IfFound : {A E : Type 0} → Result (Option A) E → (A → Type 0) → Type 0
IfFound result Holds = IfOk result (λ found. IfSome found Holds)

-- what a call answered is right of the rows, where they are told
abbrev pub Finds : {A E : Type 0} → Kept → Result A E → (Rows → A → Type 0) → Type 0
Finds kept result Fits = IsTrue kept.tells → IfOk result (Fits kept.rows)
