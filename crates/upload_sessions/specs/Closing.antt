-- What giving an upload up, and ending a session, make of the depot, by cases on the answer.
use Rattle.std.specs.Prelude.{◌≡◌, ◌⊎◌, ℕ, List, Option, Some, None, Result, Ok, Err}
use Rattle.reg_names.specs.declared.refused.Refused.{Refused}
use Rattle.depot_api.specs.Changes.{with_file}
use Rattle.depot_api.specs.Holdings.{Holding}
use Rattle.link_paths.specs.Places.{upload_data_path, upload_started_path}
use Rattle.reg_claims.specs.Claims.{ClaimList}
use Rattle.reg_entries.specs.declared.reply.Reply.{Reply}
use Rattle.reg_entries.specs.declared.reply.Reply.TheVariants as replies
use Rattle.reg_entries.specs.declared.trouble.Trouble.{Trouble}
use Rattle.reg_entries.specs.declared.trouble.Trouble.TheVariants as troubles
use Rattle.reg_model.specs.Uploads.{cancel_reply}
use Rattle.upload_sessions.specs.Meeting.{Meets}

-- the reply to who gives an upload up
pub record IsCancelReply (held : Holding) (claims : ClaimList) (name : List ℕ) (id : Option (List ℕ)) (reply : Reply)
    : Type 0 where
  pub met : Result (List ℕ × ℕ) ℕ
  pub meets : Meets held claims name id met
  pub is : reply ≡ cancel_reply met

-- what is held, without the bytes of an upload, and without the note of its start
abbrev pub without_data : List ℕ → List ℕ → Holding → Holding
without_data name id held = with_file held (upload_data_path name id) None

abbrev pub without_start : List ℕ → List ℕ → Holding → Holding
without_start name id held = with_file held (upload_started_path name id) None

abbrev pub without_upload : List ℕ → List ℕ → Holding → Holding
without_upload name id held = without_start name id (without_data name id held)

-- none, the first or both of the two removals were made
abbrev pub MayRemove : List ℕ → List ℕ → Holding → Holding → Type 0
MayRemove name id before now =
    (now ≡ before) ⊎ ((now ≡ without_data name id before) ⊎ (now ≡ without_upload name id before))

-- the bytes and then the note were removed; the note was not where memory was wanting
abbrev pub RemovesBoth : {A : Type 0} → List ℕ → List ℕ → Result A Refused → Holding → Holding → Type 0
RemovesBoth name id (Ok done) before now = now ≡ without_upload name id before
RemovesBoth name id (Err refused) before now = MayRemove name id before now

abbrev pub CancelsAt : Option (List ℕ) → List ℕ → Reply → Holding → Holding → Type 0
CancelsAt (Some id) name replies.Cancelled before now = now ≡ without_upload name id before
CancelsAt id name reply before now = now ≡ before

abbrev pub CancelsInPart : Option (List ℕ) → List ℕ → Holding → Holding → Type 0
CancelsInPart (Some id) name before now = MayRemove name id before now
CancelsInPart None name before now = now ≡ before

-- an upload was given up, or nothing changed, by the reply; in part, where there was a trouble
abbrev pub Cancels : List ℕ → Option (List ℕ) → Result Reply Trouble → Holding → Holding → Type 0
Cancels name id (Ok reply) before now = CancelsAt id name reply before now
Cancels name id (Err trouble) before now = CancelsInPart id name before now

-- the note of an upload's start was removed; it was or was not where the depot failed, and was not without memory
abbrev pub RemovesStart : {A : Type 0} → List ℕ → List ℕ → Result A Trouble → Holding → Holding → Type 0
RemovesStart name id (Ok done) before now = now ≡ without_start name id before
RemovesStart name id (Err troubles.Depot) before now = (now ≡ before) ⊎ (now ≡ without_start name id before)
RemovesStart name id (Err trouble) before now = now ≡ before
