-- A sink in memory.
use Rattle.std.specs.Prelude.{ℕ, List, Option, Some, Result, Ok, Err}
use Rattle.depot_api.specs.Calls.{Calls}
use Rattle.depot_api.specs.declared.memory.sink.MemSink.{MemSink}

-- the bytes that it has taken
abbrev pub sink_taken : MemSink → List ℕ
sink_taken s = s.taken.items

-- how many bytes more it has room for
abbrev pub sink_room : MemSink → ℕ
sink_room s = s.room

-- the calls that it has had
abbrev pub sink_calls : MemSink → Calls
sink_calls s = s.calls

-- how many bytes a write took
abbrev pub taken_by : {E : Type 0} → Result ℕ E → ℕ
taken_by (Ok n) = n
taken_by (Err e) = 0

-- how often it has failed
abbrev pub sink_faults : MemSink → ℕ
sink_faults s = (sink_calls s).faults

-- it tells what it has taken
abbrev pub sink_told : MemSink → Option (List ℕ)
sink_told s = Some (sink_taken s)
