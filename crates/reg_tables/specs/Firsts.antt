-- The first of all rows.
use Rattle.std.specs.Prelude.{◌≡◌, ℕ, ◌≤◌, List, [], ◌∷◌, Option, Some, None, is_some, IsTrue}
use Rattle.keeper_api.specs.Rows.{Rows, is_below}

-- a key of one of the tables, which are numbered from 0
abbrev pub last_table : ℕ
last_table = 16

abbrev pub IsOfTables : List ℕ → Type 0
IsOfTables [] = ⊥
IsOfTables (table ∷ bytes) = table ≤ last_table

-- no row of the tables stands
abbrev pub AreEmpty : Rows → Type 0
AreEmpty rows = (key : List ℕ) → IsOfTables key → rows key ≡ None

-- the least key of all tables whose row stands, and none only where no row stands
abbrev pub IsFirst : Rows → Option (List ℕ) → Type 0
IsFirst rows None = AreEmpty rows
IsFirst rows (Some first) =
    IsOfTables first
    × IsTrue (is_some (rows first))
    × ((key : List ℕ) → IsOfTables key → IsTrue (is_below key first) → rows key ≡ None)
