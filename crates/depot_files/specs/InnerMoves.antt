-- The proof's own: no public clause cites what stands here.
-- What a change that is not told yet made of what is held.
use Rattle.std.specs.Prelude.{◌≡◌, ◌⊎◌, Result, Ok, Err}
use Rattle.reg_names.specs.declared.refused.Refused.{Refused}
use Rattle.reg_names.specs.declared.refused.Refused.TheVariants as refusals
use Rattle.depot_api.specs.Holdings.{Holding}
use Rattle.depot_files.specs.declared.error.FileError.{FileError}
use Rattle.depot_files.specs.declared.error.FileError.TheVariants as errors

-- what is told of it
abbrev pub as_told : {A : Type 0} → Result A FileError → Result A Refused
as_told (Ok value) = Ok value
as_told (Err errors.NoMemory) = Err refusals.NoMemory
as_told (Err errors.Fault) = Err refusals.Failed

-- it was made; it was made or not, where there was a fault; and it was not made for want of memory
abbrev pub IsMade : {A : Type 0} → Holding → Result A FileError → Holding → Holding → Type 0
IsMade asked (Ok done) before now = now ≡ asked
IsMade asked (Err errors.NoMemory) before now = now ≡ before
IsMade asked (Err errors.Fault) before now = (now ≡ before) ⊎ (now ≡ asked)
