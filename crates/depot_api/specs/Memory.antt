-- What the devices in memory hold.
use Rattle.std.specs.Prelude.{ℕ, Bool, false, ◌&&◌, ◌==◌, nat_lt, ◌-◌, min, max, List, [], ◌∷◌, length, slice_index_or, replicate, Some, None}
use Rattle.std.specs.List.{slice_get}
use Rattle.std.specs.Option.{option_map_or}
use Rattle.depot_api.specs.Files.{Files, with_at}

-- no file
abbrev pub no_files : Files
no_files = λ _. None

-- nothing is lent
abbrev pub no_loans : List (List ℕ) → Bool
no_loans = λ _. false

-- files, with those of a list put over them in turn
abbrev pub with_all : Files → List (List (List ℕ) × List ℕ) → Files
with_all files [] = files
with_all files (entry ∷ rest) = with_all (with_at files entry.0 (Some entry.1)) rest

-- the files of a list: of those with one path the last one counts
abbrev pub files_of : List (List (List ℕ) × List ℕ) → Files
files_of entries = with_all no_files entries

-- how many of so many bytes read number k gives into a buffer of that size: at most the larger of 1 and the piece of
-- its number, where there is one
abbrev pub read_length : List ℕ → ℕ → ℕ → ℕ → ℕ
read_length pieces k left size =
    min (min left size) (option_map_or (λ piece. max 1 piece) (slice_get pieces k) left)

-- there is no room for a piece that is not empty
abbrev pub is_full : ℕ → List ℕ → Bool
is_full room piece = room == 0 && nat_lt 0 (length piece)

-- sixteen zero bytes
abbrev pub zeros : List ℕ
zeros = replicate 16 0

-- word number k of a list, and the last one behind its end
abbrev pub listed : List (List ℕ) → ℕ → List ℕ
listed words k = slice_index_or words (min k (length words - 1)) zeros
