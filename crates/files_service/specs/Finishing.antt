-- What finishing an upload makes of link files.
use Rattle.std.specs.Prelude.{◌≡◌, ◌⊎◌, Bool, true, false, ℕ, List, Some, None, is_some, ⊤}
use Rattle.depot_api.specs.Changes.{with_placed, with_shelved}
use Rattle.depot_api.specs.Holdings.{Holding}
use Rattle.depot_api.specs.Stages.{Staged}
use Rattle.depot_api.specs.declared.stage.Stage.{Ghosts}
use Rattle.link_paths.specs.Places.{data_path, layer_path}
use Rattle.reg_claims.specs.Claims.{ClaimList, claim_of, has}
use Rattle.reg_claims.specs.declared.claim.Held.{Held}
use Rattle.reg_entries.specs.Numbers.{upload_in_use}
use Rattle.reg_entries.specs.declared.reply.Reply.{Reply}
use Rattle.reg_entries.specs.declared.reply.Reply.TheVariants as replies
use Rattle.reg_entries.specs.declared.trouble.Trouble.{Trouble}
use Rattle.reg_entries.specs.declared.trouble.Trouble.TheVariants as troubles
use Rattle.reg_model.specs.Answers.{refusal}
use Rattle.upload_sessions.specs.declared.finish.Finish.{Finish}
use Rattle.upload_sessions.specs.declared.finish.Finish.TheVariants.{Done, Back, Failed}
use Rattle.upload_sessions.specs.declared.sealed.Sealed.{Sealed}
use Rattle.files_service.specs.Changing.{puts_link, with_change}

-- ---- what comes back

-- how a finish ended: it was done, or refused, or failed, and then the sealed bytes came back or did not
pub data Ending : Type 0 where
  done : Reply → Ending
  refused : Reply → Ending
  failed : Bool → Trouble → Ending

abbrev pub ending_of : {S : Type 0} {g : Ghosts S} → Finish S g → Ending
ending_of (Done held reply) = done reply
ending_of (Back held sealed reply) = refused reply
ending_of (Failed held sealed trouble) = failed (is_some sealed) trouble

-- the claim came back, and so did the sealed bytes where nothing was made of them
abbrev pub IsBack : {S : Type 0} {g : Ghosts S} → Held → Sealed S g → Finish S g → Type 0
IsBack held sealed (Done back reply) = back ≡ held
IsBack held sealed (Back back same reply) = (back ≡ held) × (same ≡ sealed)
IsBack held sealed (Failed back (Some same) trouble) = (back ≡ held) × (same ≡ sealed)
IsBack held sealed (Failed back None trouble) = back ≡ held

-- the depot failed
abbrev pub HasFailedToEnd : Ending → Type 0
HasFailedToEnd (failed back troubles.Depot) = ⊤
HasFailedToEnd ending = ⊥

-- ---- what is made of the files

-- staged bytes are the blob of their digest, unless that stands
abbrev pub with_blob : Staged → List ℕ → Holding → Holding
with_blob staged digest before = with_placed before staged (data_path digest)

-- and the repository links it
abbrev pub with_linked : List ℕ → Staged → List ℕ → Holding → Holding
with_linked name staged digest before =
    with_change (puts_link (layer_path name digest) digest) (with_blob staged digest before)

-- The blob may be placed and linked where the depot failed, or the staged bytes may be put back. Where memory was
-- wanting for the link, the blob is placed.
abbrev pub EndsInPart : List ℕ → Staged → List ℕ → Trouble → Holding → Holding → Type 0
EndsInPart name staged digest troubles.Depot before now =
    (now ≡ with_shelved before staged)
    ⊎ ((now ≡ with_blob staged digest before) ⊎ (now ≡ with_linked name staged digest before))
EndsInPart name staged digest troubles.NoMemory before now = now ≡ with_blob staged digest before
EndsInPart name staged digest trouble before now = ⊥

-- a session that is claimed is finished, with this digest of its staged bytes; one whose claim is lost is refused
abbrev pub EndsUpload : ClaimList → Held → Staged → List ℕ → Ending → Holding → Holding → Type 0
EndsUpload claims held staged digest (done reply) before now =
    (has (claim_of held) claims ≡ true) × (reply ≡ replies.Finished held.name digest)
    × (now ≡ with_linked held.name staged digest before)
EndsUpload claims held staged digest (refused reply) before now =
    (has (claim_of held) claims ≡ false) × (reply ≡ refusal upload_in_use) × (now ≡ before)
EndsUpload claims held staged digest (failed true trouble) before now =
    (trouble ≡ troubles.NoMemory) × (now ≡ before)
EndsUpload claims held staged digest (failed false trouble) before now =
    EndsInPart held.name staged digest trouble before now
