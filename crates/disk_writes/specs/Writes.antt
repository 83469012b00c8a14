-- Numbered files, and what an upload that grows makes of what is held.
use Rattle.std.specs.Prelude.{◌≡◌, ℕ, ◌%◌, List, [], ◌∷◌, ◌++◌, codes, decimal, IsTrue}
use Rattle.std.specs.List.{repeat}
use Rattle.depot_api.specs.Changes.{bytes_or, with_lent, with_shelved, with_placed}
use Rattle.depot_api.specs.Holdings.{Holding}
use Rattle.depot_api.specs.Paths.{parts_of}
use Rattle.depot_api.specs.Stages.{Staged}

-- the line of a number: its digits and a line feed
abbrev pub line : ℕ → List ℕ
line n = decimal n ++ 10 ∷ []

-- where its small file is, which 16 numbers share by turns; its upload; and what was uploaded
abbrev pub small_path : ℕ → List (List ℕ)
small_path n = parts_of (codes "s/" ++ decimal (n % 16))

abbrev pub staged_path : ℕ → List (List ℕ)
staged_path n = parts_of (codes "u/" ++ (decimal n ++ codes "/data"))

abbrev pub placed_path : ℕ → List (List ℕ)
placed_path n = parts_of (codes "b/" ++ (decimal n ++ codes "/data"))

-- what is staged of a file that was lent, with a piece behind its bytes so many times
pub record IsGrown (before : Holding) (at : List (List ℕ)) (piece : List ℕ) (times : ℕ) (staged : Staged) : Type 0 where
  pub path : staged.path ≡ at
  pub bytes : IsTrue before.tells → staged.bytes ≡ bytes_or [] before.files at ++ repeat times piece

-- the file was lent, grew so, and was put back
abbrev pub Grows : List (List ℕ) → List ℕ → ℕ → Holding → Holding → Type 0
Grows at piece times before now =
    (staged : Staged) × IsGrown before at piece times staged × (now ≡ with_shelved (with_lent before at) staged)

-- the file was lent, grew so, and was placed
abbrev pub Uploads : List (List ℕ) → List (List ℕ) → List ℕ → ℕ → Holding → Holding → Type 0
Uploads at to piece times before now =
    (staged : Staged) × IsGrown before at piece times staged × (now ≡ with_placed (with_lent before at) staged to)
