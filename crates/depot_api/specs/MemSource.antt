-- A source in memory.
use Rattle.std.specs.Prelude.{ℕ, min, List, length, drop, Option, Some}
use Rattle.depot_api.specs.Calls.{Calls}
use Rattle.depot_api.specs.Limits.{given_limit}
use Rattle.depot_api.specs.Memory.{read_length}
use Rattle.depot_api.specs.declared.memory.source.MemSource.{MemSource}

-- the bytes that are left
abbrev pub source_left : MemSource → List ℕ
source_left s = drop s.at s.bytes

-- how many bytes it has given, as far as the count goes
abbrev pub source_given : MemSource → ℕ
source_given s = min s.at given_limit

-- the most bytes that each read gives
abbrev pub source_pieces : MemSource → List ℕ
source_pieces s = s.pieces.items

-- the calls that it has had
abbrev pub source_calls : MemSource → Calls
source_calls s = s.calls

-- how many bytes the next read gives into a buffer of that size
abbrev pub next_length : MemSource → ℕ → ℕ
next_length s size = read_length (source_pieces s) (source_calls s).made (length (source_left s)) size

-- how often it has failed
abbrev pub source_faults : MemSource → ℕ
source_faults s = (source_calls s).faults

-- it tells what is left
abbrev pub source_told : MemSource → Option (List ℕ)
source_told s = Some (source_left s)
