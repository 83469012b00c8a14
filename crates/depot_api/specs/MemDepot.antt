-- A depot in memory.
use Rattle.std.specs.Prelude.{◌≡◌, ℕ, Bool, List}
use Rattle.depot_api.specs.Calls.{Calls, CountsCall}
use Rattle.depot_api.specs.Files.{Files}
use Rattle.depot_api.specs.Holdings.{Holding}
use Rattle.depot_api.specs.Slots.{slots_held}
use Rattle.depot_api.specs.declared.memory.depot.MemDepot.{MemDepot}

-- it tells its files, and which paths are lent
abbrev pub depot_held : MemDepot → Holding
depot_held d = slots_held d.slots

-- its files
abbrev pub depot_files : MemDepot → Files
depot_files d = (depot_held d).files

-- which paths are lent
abbrev pub depot_lent : MemDepot → List (List ℕ) → Bool
depot_lent d = (depot_held d).lent

-- the calls that it has had
abbrev pub depot_calls : MemDepot → Calls
depot_calls d = d.calls

-- the numbers of the calls that fail of each blob that it lends, and of each stage
abbrev pub depot_reads : MemDepot → List ℕ
depot_reads d = d.reads.items

abbrev pub depot_appends : MemDepot → List ℕ
depot_appends d = d.appends.items

-- how often it has failed
abbrev pub depot_faults : MemDepot → ℕ
depot_faults d = (depot_calls d).faults

-- a call was counted, and it failed exactly where its number stands among those that fail
abbrev pub HasCalled : MemDepot → MemDepot → Type 0 → Type 0
HasCalled before now told = CountsCall (depot_calls before) (depot_calls now) told

-- which calls of blobs and of stages fail stays
pub record KeepsFailing (before now : MemDepot) : Type 0 where
  pub reads : depot_reads now ≡ depot_reads before
  pub appends : depot_appends now ≡ depot_appends before
