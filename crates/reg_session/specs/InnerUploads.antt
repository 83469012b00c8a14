-- The proof's own: no public clause cites what stands here.
-- What a request does once the session of its upload was given.
use Rattle.std.specs.Prelude.{◌≡◌, ℕ, List, [], ◌∷◌, Option, Some, None, Ok, ⊤}
use Rattle.depot_api.specs.Stages.{Staged}
use Rattle.depot_api.specs.declared.stage.Stage.{Ghosts}
use Rattle.files_service.specs.Finishing.{Ending}
use Rattle.reg_claims.specs.declared.claim.Held.{Held}
use Rattle.reg_entries.specs.declared.ask.Ask.{Ask}
use Rattle.reg_entries.specs.declared.reply.Reply.{Reply}
use Rattle.reg_model.specs.Answers.{plain}
use Rattle.reg_world.specs.Worlds.{Data}
use Rattle.upload_sessions.specs.declared.finish.Finish.{Finish}
use Rattle.upload_sessions.specs.declared.sealed.Sealed.{Sealed}
use Rattle.upload_sessions.specs.declared.finish.Finish.TheVariants.{Done, Back, Failed}
use Rattle.reg_session.specs.declared.ended.Step.{Step}
use Rattle.reg_session.specs.Chains.{Hold, Chain, Own, BringsAll}
use Rattle.reg_session.specs.InnerSteps.{Behind, Line}
use Rattle.reg_session.specs.Requests.{Parts, asked_in}
use Rattle.reg_session.specs.Turns.{RepliesTo}
use Rattle.reg_session.specs.Uploads.{upload_ask, SpendsBy, Gives}
use Rattle.reg_session.specs.Works.{MayHold}

-- the ask adds to an upload, and finishes it with that digest, if there is one
abbrev pub IsUpload : Ask → Option (List ℕ) → Type 0
IsUpload ask digest =
    (name : List ℕ) × (id : Option (List ℕ)) × (start : Option ℕ) × (ask ≡ upload_ask name id start digest)

-- holds that need nothing of what a session brings
pub record Spends (between : Data → Data → Type 0) (old new : Data) (holds : List Hold) : Type 0 where
  pub chain : Chain between old holds new
  pub brings : (o : Own) (words : Option (ℕ → List ℕ)) → BringsAll o words holds words

-- a session that was given is spent by these holds, and so is answered
pub record Completes (between : Data → Data → Type 0) (old new : Data) (ask : Ask) (body : List ℕ) (h : Hold)
    (reply : Reply) : Type 0 where
  pub holds : List Hold
  pub spends : Spends between old new holds
  pub replies_so : RepliesTo ask body (h ∷ holds) (plain reply)

-- this is staged of sealed bytes that are still there
abbrev pub IsStill : {S : Type 0} {g : Ghosts S} → (S → Staged) → Staged → Option (Sealed S g) → Type 0
IsStill staged after (Some sealed) = staged sealed.stage ≡ after
IsStill staged after None = ⊤

-- the claim that comes back from a finish, and what is staged of sealed bytes that come back
abbrev pub IsBackOf : {S : Type 0} {g : Ghosts S} → (S → Staged) → Held → Staged → Finish S g → Type 0
IsBackOf staged claim after (Done held reply) = held ≡ claim
IsBackOf staged claim after (Back held sealed reply) = (held ≡ claim) × (staged sealed.stage ≡ after)
IsBackOf staged claim after (Failed held sealed trouble) = (held ≡ claim) × IsStill staged after sealed

-- a session is spent by one hold, by how its finish ended, and so is answered
pub record EndsFinish (between : Data → Data → Type 0) (old new : Data) (claim : Held) (after : Staged)
    (ending : Ending) (reply : Reply) : Type 0 where
  pub hold : Hold
  pub spends : Spends between old new (hold ∷ [])
  pub ends : SpendsBy claim after ending hold (plain reply)

-- the session of this request was given
pub record HasSession (p : Parts) (digest : Option (List ℕ)) (h : Hold) (held : Held) (before : Staged) : Type 0 where
  pub ask : Ask
  pub asked : asked_in p ≡ Ok ask
  pub upload : IsUpload ask digest
  pub may : MayHold p (h ∷ [])
  pub gives : Gives ask h held before

-- it was spent, and the request was served with its holds, or the session of the connection ended
pub record Adds {B : Type 0} (between : Data → Data → Type 0) (failed : Type 0) (p : Parts) (old new : Data)
    (from to : Line) (h : Hold) (step : Step B) : Type 0 where
  pub holds : List Hold
  pub spends : Spends between old new holds
  pub behind : Behind failed p from to (h ∷ holds) step
