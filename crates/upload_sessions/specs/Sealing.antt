-- What sealing a stage makes of it.
use Rattle.std.specs.Prelude.{◌≡◌, ℕ, List, IsTrue, ⊤}
use Rattle.reg_names.specs.Cause.{OnlyReads}
use Rattle.reg_digest.specs.Hashing.{hashes_to}
use Rattle.depot_api.specs.Stages.{Staged}
use Rattle.upload_sessions.specs.declared.sealed.Unsealed.{Unsealed}
use Rattle.upload_sessions.specs.declared.sealed.Unsealed.TheVariants.{Failed, NoMemory}

-- this is the digest of staged bytes, where they are told, and this their length
pub record IsSealOf (staged : Staged) (digest : List ℕ) (size : ℕ) : Type 0 where
  pub counted : size ≡ staged.count
  pub hashed : IsTrue staged.tells → IsTrue (hashes_to digest staged.bytes)

-- the stage that comes back has the bytes that it had, and it has failed where that is why it was not sealed
abbrev pub IsUnsealed : {S : Type 0} → (S → Staged) → (S → ℕ) → S → Unsealed S → Type 0
IsUnsealed held faults before (Failed stage) = OnlyReads held faults before stage ⊤
IsUnsealed held faults before (NoMemory stage) = OnlyReads held faults before stage ⊥
