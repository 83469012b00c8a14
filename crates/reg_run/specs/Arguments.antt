-- The command-line arguments of the program.
use Rattle.std.specs.Prelude.{ℕ, Bool, false, not, ◌&&◌, ◌==◌, nat_eq, if◌then◌else◌, List, [], ◌∷◌, ◌++◌, codes, Option, Some, None, IsTrue}
use Rattle.std.specs.Cmp.Lexicographic.{pointwise}

-- whether a text is this one
abbrev pub is_text : List ℕ → List ℕ → Bool
is_text text word = pointwise nat_eq text word

-- the value of an option: not empty, and with no dash at its front
abbrev pub is_value : List ℕ → Bool
is_value [] = false
is_value (b ∷ _) = not (b == 45)

-- `once`, or `once --root DIR`
abbrev pub are_arguments : List (List ℕ) → Bool
are_arguments (command ∷ []) = is_text command (codes "once")
are_arguments (command ∷ option ∷ value ∷ []) =
    is_text command (codes "once") && is_text option (codes "--root") && is_value value
are_arguments _ = false

abbrev pub AreArguments : List (List ℕ) → Type 0
AreArguments arguments = IsTrue (are_arguments arguments)

-- the directory that accepted arguments name
abbrev pub root_in : List (List ℕ) → Option (List ℕ)
root_in (command ∷ option ∷ value ∷ []) =
    if are_arguments (command ∷ option ∷ value ∷ []) then Some value else None
root_in _ = None

-- what is written where the arguments are refused
abbrev pub usage : List ℕ
usage = codes "usage: registry once|import|review|audit|gen|serve" ++ 10 ∷ []
