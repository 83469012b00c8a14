-- What a look-up of the next row answers.
use Rattle.std.specs.Prelude.{◌≡◌, ℕ, List, Option, Some, None, IsTrue}
use Rattle.reg_entries.specs.Listing.{is_behind}
use Rattle.keeper_api.specs.Rows.{Rows, is_below}

-- The least row with a key of this kind whose last part is above `after`, or the least of all where `after` is none; and
-- nothing only where there is no such row. `last` is the last part of what was found, and `spelled` its row.
abbrev pub IsNextAt : {A : Type 0} → (List ℕ → Type 0) → (List ℕ → List ℕ) → (A → List ℕ) → (A → List ℕ)
    → Option (List ℕ) → Rows → Option A → Type 0
IsNextAt IsPart key last spelled after rows None =
    (part : List ℕ) → IsPart part → IsTrue (is_behind after part) → rows (key part) ≡ None
IsNextAt IsPart key last spelled after rows (Some x) =
    IsTrue (is_behind after (last x)) × (rows (key (last x)) ≡ Some (spelled x))
    × ((part : List ℕ) → IsPart part → IsTrue (is_behind after part) → IsTrue (is_below part (last x))
    → rows (key part) ≡ None)
