-- A world as plain data.
use Rattle.std.specs.Prelude.{ℕ}
use Rattle.depot_api.specs.Holdings.{Holding}
use Rattle.reg_claims.specs.Claims.{ClaimList}
use Rattle.reg_model.specs.Facts.{Facts}
use Rattle.reg_model.specs.Uploads.{is_busy}
use Rattle.files_service.specs.Facts.{facts_of}
use Rattle.reg_world.specs.declared.world.World.{World}

-- what its depot holds, how often that has failed, and the claims that stand
pub record Data : Type 0 where
  pub held : Holding
  pub faults : ℕ
  pub claims : ClaimList

-- what answers depend on
abbrev pub facts : Data → Facts
facts w = record (facts_of w.held) { busy = is_busy w.held w.claims }

abbrev pub shown : {D K : Type 0} → (D → Holding) → (D → ℕ) → World D K → Data
shown held faults world =
    record { held = held world.depot; faults = faults world.depot; claims = world.claims }

-- the keeper of its tables
abbrev pub keeper_of : {D K : Type 0} → World D K → K
keeper_of world = world.keeper
