-- The proof's own: no public clause cites what stands here.
-- Keys that begin with a front.
use Rattle.std.specs.Prelude.{◌≡◌, ℕ, ◌++◌, List, [], Option, Some, None, IsTrue}
use Rattle.reg_names.specs.Tags.{IsTag}
use Rattle.keeper_api.specs.Fields.{ended}
use Rattle.keeper_api.specs.Rows.{Rows, is_below}

-- the least row that has more behind the front than `after`, and none only where there is no such row
abbrev pub IsNextBehind : List ℕ → List ℕ → Rows → Option (List ℕ × List ℕ) → Type 0
IsNextBehind front after rows None = (rest : List ℕ) → IsTrue (is_below after rest) → rows (front ++ rest) ≡ None
IsNextBehind front after rows (Some found) =
    IsTrue (is_below after found.0) × (rows (front ++ found.0) ≡ Some found.1)
    × ((rest : List ℕ) → IsTrue (is_below after rest) → IsTrue (is_below rest found.0) → rows (front ++ rest) ≡ None)

-- how the last part is spelled above which the next one is looked for; above none there is any
abbrev pub bound_of : (List ℕ → List ℕ) → Option (List ℕ) → List ℕ
bound_of spell None = []
bound_of spell (Some part) = spell part

-- the last part of a tag's key
pub record IsEndedTag (spelled : List ℕ) : Type 0 where
  pub tag : List ℕ
  pub is_tag : IsTag tag
  pub is : spelled ≡ ended tag
