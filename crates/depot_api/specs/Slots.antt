-- What stands at each path of a depot in memory: a file, or a mark that the path is lent.
use Rattle.std.specs.Prelude.{ℕ, Bool, true, false, List, length, Option, Some, None}
use Rattle.std.specs.BTreeMap as tree
use Rattle.depot_api.specs.Holdings.{Holding}
use Rattle.depot_api.specs.Paths.{path_cmp}
use Rattle.depot_api.specs.Stages.{Staged}
use Rattle.depot_api.specs.declared.memory.slots.Slot.{Slot}
use Rattle.depot_api.specs.declared.memory.slots.Slot.TheVariants.{Whole, Lent}
use Rattle.depot_api.specs.declared.memory.slots.Slots.{Slots}

-- the file that stands there
abbrev pub content : Option Slot → Option (List ℕ)
content None = None
content (Some (Whole bytes)) = Some bytes
content (Some Lent) = None

-- whether the path is lent
abbrev pub is_lent : Option Slot → Bool
is_lent None = false
is_lent (Some (Whole bytes)) = false
is_lent (Some Lent) = true

-- what slots hold: the files are told, and which paths are lent
abbrev pub held_by : (List (List ℕ) → Option Slot) → Holding
held_by slots = record { tells = true; files = λ q. content (slots q); lent = λ q. is_lent (slots q) }

abbrev pub slots_held : Slots → Holding
slots_held s = held_by (tree.get path_cmp s.slots)

-- these bytes, staged from a path, and told
abbrev pub staged_at : List (List ℕ) → List ℕ → Staged
staged_at path bytes = record { path = path; tells = true; count = length bytes; bytes = bytes }
