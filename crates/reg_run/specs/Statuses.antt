-- The exit statuses of the program.
use Rattle.std.specs.Prelude.{ℕ}
use Rattle.reg_session.specs.declared.ended.Ended.{Ended}
use Rattle.reg_session.specs.declared.ended.Ended.TheVariants as ends
use Rattle.reg_run.specs.declared.status.Status.{Status}
use Rattle.reg_run.specs.declared.status.Status.TheVariants.{Done, Usage, Fault, NoMemory, Unserved, Long}

-- how a run ended, by how its session did
abbrev pub status_of : {B : Type 0} → Ended B → Status
status_of ends.Done = Done
status_of (ends.Refused n) = Unserved
status_of ends.Cut = Unserved
status_of ends.SourceFault = Fault
status_of ends.SinkFault = Fault
status_of (ends.BlobFault blob) = Fault
status_of ends.Long = Long
status_of ends.NoMemory = NoMemory

abbrev pub code : Status → ℕ
code Done = 0
code Usage = 2
code Fault = 5
code NoMemory = 9
code Unserved = 10
code Long = 11
