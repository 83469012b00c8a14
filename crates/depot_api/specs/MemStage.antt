-- A stage in memory.
use Rattle.std.specs.Prelude.{ℕ, true, List, length}
use Rattle.depot_api.specs.Calls.{Calls}
use Rattle.depot_api.specs.Stages.{Staged}
use Rattle.depot_api.specs.declared.memory.stage.MemStage.{MemStage}

-- the staged bytes
abbrev pub stage_bytes : MemStage → List ℕ
stage_bytes s = s.bytes.items

-- the appends and reads that it has had
abbrev pub stage_calls : MemStage → Calls
stage_calls s = s.calls

-- the path that it was lent from
abbrev pub stage_path : MemStage → List (List ℕ)
stage_path s = s.path

-- it tells its bytes
abbrev pub stage_held : MemStage → Staged
stage_held s = record { path = stage_path s; tells = true; count = length (stage_bytes s); bytes = stage_bytes s }

-- how often it has failed
abbrev pub stage_faults : MemStage → ℕ
stage_faults s = (stage_calls s).faults
