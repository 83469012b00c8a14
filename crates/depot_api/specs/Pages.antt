-- Pages of the paths that begin with the same parts.
use Rattle.std.specs.Prelude.{◌≡◌, ℕ, zero, suc, Bool, true, List, [], ◌∷◌, Option, Some, None, IsSome, IsTrue, ⊤}
use Rattle.depot_api.specs.Paths.{is_below, begins_with}
use Rattle.depot_api.specs.Files.{Files}

-- q is above a path, where there is one
abbrev pub is_after : Option (List (List ℕ)) → List (List ℕ) → Bool
is_after None q = true
is_after (Some a) q = is_below a q

-- q is one of the paths that are asked for: above `after`, and it begins with `under`
abbrev pub IsAsked : List (List ℕ) → Option (List (List ℕ)) → List (List ℕ) → Type 0
IsAsked under after q = IsTrue (is_after after q) × IsTrue (begins_with under q)

-- the least path asked for at which there is a file
abbrev pub IsNextPath : Files → List (List ℕ) → Option (List (List ℕ)) → Option (List (List ℕ)) → Type 0
IsNextPath files under after None = (q : List (List ℕ)) → IsAsked under after q → files q ≡ None
IsNextPath files under after (Some p) =
    IsAsked under after p × IsSome (files p)
    × ((q : List (List ℕ)) → IsAsked under after q → IsTrue (is_below q p) → files q ≡ None)

-- the first `most` files of those asked for, in the order of their paths: all of them where there are fewer
abbrev pub IsPage : Files → List (List ℕ) → Option (List (List ℕ)) → ℕ → List (List (List ℕ)) → Type 0
IsPage files under after zero paths = paths ≡ []
IsPage files under after (suc n) [] = IsNextPath files under after None
IsPage files under after (suc n) (p ∷ rest) = IsNextPath files under after (Some p) × IsPage files under (Some p) n rest

-- paths that are asked for, each above the one before it
abbrev pub ArePathsAbove : List (List ℕ) → Option (List (List ℕ)) → List (List (List ℕ)) → Type 0
ArePathsAbove under after [] = ⊤
ArePathsAbove under after (p ∷ rest) = IsAsked under after p × ArePathsAbove under (Some p) rest
