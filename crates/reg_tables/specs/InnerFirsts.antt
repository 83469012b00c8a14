-- The proof's own: no public clause cites what stands here.
-- The first row of one table.
use Rattle.std.specs.Prelude.{◌≡◌, ℕ, ◌<◌, List, ◌∷◌, Option, Some, None, is_some, IsTrue}
use Rattle.keeper_api.specs.Rows.{Rows, IsAbove, is_below}

-- no row of a table stands
abbrev pub IsEmptyAt : ℕ → Rows → Type 0
IsEmptyAt table rows = (bytes : List ℕ) → rows (table ∷ bytes) ≡ None

-- and none of the tables below it
abbrev pub AreEmptyBelow : ℕ → Rows → Type 0
AreEmptyBelow bound rows = (table : ℕ) (bytes : List ℕ) → table < bound → rows (table ∷ bytes) ≡ None

abbrev pub IsFirstAt : ℕ → Rows → Option (List ℕ) → Type 0
IsFirstAt table rows None = IsEmptyAt table rows
IsFirstAt table rows (Some first) =
    (bytes : List ℕ) × (first ≡ table ∷ bytes)
    × IsTrue (is_some (rows (table ∷ bytes)))
    × ((other : List ℕ) → IsTrue (is_below (table ∷ other) (table ∷ bytes)) → rows (table ∷ other) ≡ None)

-- the least key above another of its table whose row stands
abbrev pub IsFirstAbove : List ℕ → Rows → Option (List ℕ) → Type 0
IsFirstAbove bare rows None = (key : List ℕ) → IsAbove bare key → rows key ≡ None
IsFirstAbove bare rows (Some first) =
    IsAbove bare first
    × IsTrue (is_some (rows first))
    × ((key : List ℕ) → IsAbove bare key → IsTrue (is_below key first) → rows key ≡ None)
