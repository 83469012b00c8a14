-- A keeper in memory.
use Rattle.std.specs.Prelude.{ℕ, true, None}
use Rattle.depot_api.specs.Calls.{Calls, CountsCall}
use Rattle.keeper_api.specs.Rows.{Rows, Kept}
use Rattle.keeper_api.specs.Slots.{rows_in}
use Rattle.keeper_api.specs.declared.memory.MemKeeper.{MemKeeper}

-- no row
abbrev pub no_rows : Rows
no_rows = λ _. None

abbrev pub keeper_rows : MemKeeper → Rows
keeper_rows k = rows_in k.slots.map

-- it tells its rows
abbrev pub keeper_kept : MemKeeper → Kept
keeper_kept k = record { tells = true; rows = keeper_rows k }

-- the calls that it has had
abbrev pub keeper_calls : MemKeeper → Calls
keeper_calls k = k.calls

-- how often it has failed
abbrev pub keeper_faults : MemKeeper → ℕ
keeper_faults k = (keeper_calls k).faults

-- a call was counted, and it failed exactly where its number stands among those that fail
abbrev pub HasCalled : MemKeeper → MemKeeper → Type 0 → Type 0
HasCalled before now told = CountsCall (keeper_calls before) (keeper_calls now) told
