-- How many files lie under a path.
use Rattle.std.specs.Prelude.{◌≡◌, ℕ, suc, ◌-◌, ◌^◌, min, List, length, None}
use Rattle.depot_api.specs.Files.{Files}
use Rattle.depot_api.specs.Pages.{IsPage}

-- all files whose paths begin with `under`, in the order of their paths: a page with room for one more holds no more
abbrev pub AreAll : Files → List (List ℕ) → List (List (List ℕ)) → Type 0
AreAll files under paths = IsPage files under None (suc (length paths)) paths

-- the greatest number that is counted
abbrev pub count_limit : ℕ
count_limit = 2 ^ 64 - 1

-- the number of the files, or the greatest number where there are more
abbrev pub CountsUnder : List (List ℕ) → Files → ℕ → Type 0
CountsUnder under files n =
    (paths : List (List (List ℕ))) × AreAll files under paths × (n ≡ min (length paths) count_limit)
