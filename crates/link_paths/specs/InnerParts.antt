-- The proof's own: no public clause cites what stands here.
-- How paths are written and read: what may follow a repository's name, and where the name ends.
use Rattle.std.specs.Prelude.{◌≡◌, ◌≢◌, ℕ, ◌++◌, ◌==◌, ◌≤◌, Bool, false, List, [], ◌∷◌, length, codes, Option, Some, None, Result, IfOk, IsTrue}
use Rattle.std.specs.List.{list_all, list_any}
use Rattle.reg_names.specs.Reading.{ReadsBack}
use Rattle.depot_api.specs.Paths.{is_part, parts_of}
use Rattle.link_paths.specs.declared.place.Place.{Place}
use Rattle.link_paths.specs.Places.{IsPlace}
use Rattle.link_paths.specs.Folders.{repository_of, inside}

-- parts of a path that leave space for the longest name before them
pub record IsTail (text : List ℕ) : Type 0 where
  pub parts : IsTrue (list_all is_part (parts_of text))
  pub short : length text ≤ 1000

-- ---- what follows a folder

-- the folder of all that a registry keeps
abbrev pub root : List (List ℕ)
root = codes "docker" ∷ codes "registry" ∷ codes "v2" ∷ []

abbrev pub in_repositories : List (List ℕ) → List (List ℕ)
in_repositories parts = root ++ codes "repositories" ∷ parts

-- what follows a folder in a path, and nothing only where the path does not begin with it
abbrev pub Follows : {R : Type 0} → Option R → (R → List (List ℕ)) → (folder path : List (List ℕ)) → Type 0
Follows (Some rest) now folder path = path ≡ folder ++ now rest
Follows None now folder path = (rest : List (List ℕ)) → path ≢ folder ++ rest

-- ---- the end of a name

-- a part that begins with an underscore, as no component of a name does
abbrev pub is_hidden : List ℕ → Bool
is_hidden [] = false
is_hidden (b ∷ bs) = b == 95

-- parts of which the first is such a one
pub record BeginsHidden (parts : List (List ℕ)) : Type 0 where
  pub first : List ℕ
  pub more : List (List ℕ)
  pub is : parts ≡ first ∷ more
  pub hidden : IsTrue (is_hidden first)

-- parts of which none is
abbrev pub AreOpen : List (List ℕ) → Type 0
AreOpen parts = list_any is_hidden parts ≡ false

-- the parts before the first such part, and that part with what follows it
pub record IsNameCut (parts name rest : List (List ℕ)) : Type 0 where
  pub is : parts ≡ name ++ rest
  pub open_name : AreOpen name
  pub below : BeginsHidden rest

-- ---- what lies in a repository

-- a place of this repository
abbrev pub IsPlaceOf : List ℕ → Place → Type 0
IsPlaceOf name place = IsPlace place × (repository_of place ≡ Some name)

-- the place of this repository with these parts below it
abbrev pub ReadsInside : {E : Type 0} → List ℕ → List (List ℕ) → Result (Option Place) E → Type 0
ReadsInside name parts found = IfOk found (ReadsBack (IsPlaceOf name) inside parts)
