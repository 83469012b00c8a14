-- What a depot holds: the bytes at each path, or nothing.
use Rattle.std.specs.Prelude.{◌≡◌, ℕ, ◌≤◌, nat_le, if◌then◌else◌, List, length, Option, Some, None, cond, option_map, ⊤}
use Rattle.depot_api.specs.declared.depot.Small.{Small}
use Rattle.depot_api.specs.declared.depot.Small.TheVariants.{Absent, TooLong, Content}
use Rattle.depot_api.specs.Paths.{is_at}

-- files, by the parts of their paths
abbrev pub Files : Type 0
Files = List (List ℕ) → Option (List ℕ)

-- files, with w at p
abbrev pub with_at : Files → List (List ℕ) → Option (List ℕ) → Files
with_at files p w = λ q. cond (is_at p q) w (files q)

-- a file, where it is not longer than this
abbrev pub small : ℕ → Option (List ℕ) → Small
small most None = Absent
small most (Some bytes) = if nat_le (length bytes) most then Content bytes else TooLong

-- what a read gave has at most so many bytes
abbrev pub IsUpTo : ℕ → Small → Type 0
IsUpTo most Absent = ⊤
IsUpTo most TooLong = ⊤
IsUpTo most (Content bytes) = length bytes ≤ most

-- the size of the file at a path, or that there is none
abbrev pub IsSizeAt : List (List ℕ) → Files → Option ℕ → Type 0
IsSizeAt at files size = size ≡ option_map length (files at)

-- the file at a path, where it has at most so many bytes
abbrev pub IsSmallAt : List (List ℕ) → ℕ → Files → Small → Type 0
IsSmallAt at most files found = found ≡ small most (files at)
