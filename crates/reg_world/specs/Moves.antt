-- What one hold of a world may do.
use Rattle.std.specs.Prelude.{◌≡◌, ℕ, ◌<◌, Bool, List, [], Result, Ok, Err, IsTrue, Option, ⊤}
use Rattle.reg_names.specs.Cause.{HasCause}
use Rattle.reg_names.specs.declared.reference.Reference.{Reference}
use Rattle.depot_api.specs.Blobs.{Rest}
use Rattle.depot_api.specs.Changes.{with_shelved}
use Rattle.depot_api.specs.Stages.{Staged}
use Rattle.manifest_doc.specs.declared.pushed.Pushed.{Pushed}
use Rattle.reg_claims.specs.Claims.{ClaimList, claim_of, without}
use Rattle.reg_claims.specs.declared.claim.Held.{Held}
use Rattle.reg_entries.specs.declared.ask.Ask.{Ask}
use Rattle.reg_entries.specs.declared.reply.Reply.{Reply}
use Rattle.reg_entries.specs.declared.trouble.Trouble.{Trouble}
use Rattle.reg_entries.specs.declared.trouble.Trouble.TheVariants as troubles
use Rattle.reg_model.specs.Answers.{Answer, IsAnswer, plain}
use Rattle.reg_model.specs.Changing.{Outcome, Starts, Pushes, Drops, Unlinks}
use Rattle.reg_model.specs.Facts.{Facts}
use Rattle.reg_model.specs.Fits.{Fits}
use Rattle.reg_model.specs.Blobs.{GivesBlob}
use Rattle.upload_sessions.specs.Closing.{IsCancelReply, Cancels, RemovesStart}
use Rattle.upload_sessions.specs.Meeting.{IsStateReply}
use Rattle.upload_sessions.specs.Taking.{Takes, ClaimsSession, FindsFree, LendsSession, IsOfTake}
use Rattle.upload_sessions.specs.declared.taking.Taken.{Taken}
use Rattle.upload_sessions.specs.declared.taking.Taken.TheVariants as taken
use Rattle.files_service.specs.Answers.{IsOfFiles}
use Rattle.files_service.specs.Changing.{Serves}
use Rattle.files_service.specs.Finishing.{Ending, EndsUpload, HasFailedToEnd}
use Rattle.reg_world.specs.Worlds.{Data, facts}

-- what is done
pub data Act : Type 0 where
  -- an ask is answered
  answers : Ask → Act
  -- an upload of a repository is started with an id, at a moment, or a digest of another repository is linked
  starts : List ℕ → Option (List ℕ × List ℕ) → List ℕ → ℕ → Act
  -- a manifest is pushed to a reference
  pushes : List ℕ → Option Reference → Pushed → Act
  -- what a reference stands for is removed, and a link to a blob
  drops : List ℕ → Option Reference → Act
  unlinks : List ℕ → List ℕ → Act
  -- it is told where an upload ends
  locates : List ℕ → Option (List ℕ) → Act
  -- a session is taken by a holder, from a start, if that is told
  takes : ℕ → List ℕ → Option (List ℕ) → Option ℕ → Act
  -- it is given back, with what is staged, and so many faults of the stage
  shelves : Held → Staged → ℕ → Act
  -- an upload is given up
  cancels : List ℕ → Option (List ℕ) → Act
  -- what is staged becomes the blob of its digest, and is linked
  finishes : Held → Staged → List ℕ → Act
  -- a claim is ended, and with it the note of the upload's start
  releases : Held → Act
  closes : Held → Act

-- what is seen of it
pub data Seen : Type 0 where
  -- the answer, or why there is none
  replied : Answer → Seen
  failed : Trouble → Seen
  -- what a session that was to be taken gave
  gave : Taken Staged → Seen
  -- how a finish ended
  came_to : Ending → Seen
  -- that it was done
  ended : Seen

-- nothing changed
pub record Stays (w v : Data) : Type 0 where
  pub held : v.held ≡ w.held
  pub claims : v.claims ≡ w.claims

-- a request that changes something came to an outcome, or failed with some of it made; no claim changed
abbrev pub ChangesBy : (Type 0 → Facts → Outcome → Type 0) → Data → Seen → Data → Type 0
ChangesBy Comes w (replied answer) v =
    (answer.content ≡ []) × Serves {E = Trouble} Comes (Ok answer.reply) w.held v.held × (v.claims ≡ w.claims)
ChangesBy Comes w (failed trouble) v =
    Serves {E = Trouble} Comes (Err trouble) w.held v.held × (v.claims ≡ w.claims)
ChangesBy Comes w seen v = ⊥

abbrev pub AnswersBy : Ask → Data → Seen → Data → Type 0
AnswersBy ask w (replied answer) v = (IsTrue w.held.tells → IsAnswer (facts w) ask answer) × Stays w v
AnswersBy ask w (failed trouble) v = Stays w v
AnswersBy ask w seen v = ⊥

abbrev pub LocatesBy : List ℕ → Option (List ℕ) → Data → Seen → Data → Type 0
LocatesBy name id w (replied answer) v =
    (answer.content ≡ []) × IsStateReply w.held w.claims name id answer.reply × Stays w v
LocatesBy name id w (failed trouble) v = Stays w v
LocatesBy name id w seen v = ⊥

abbrev pub TakesBy : ℕ → List ℕ → Option (List ℕ) → Option ℕ → Data → Seen → Data → Type 0
TakesBy who name id start w (gave given) v =
    Takes (λ staged. staged) w.held w.claims name id start given
    × LendsSession {S = Staged} (Ok given) w.held v.held × ClaimsSession {S = Staged} who w.claims (Ok given) v.claims
TakesBy who name id start w (failed trouble) v =
    FindsFree {A = Taken Staged} w.held w.claims name id start (Err trouble)
    × LendsSession {S = Staged} (Err trouble) w.held v.held
    × ClaimsSession {S = Staged} who w.claims (Err trouble) v.claims
TakesBy who name id start w seen v = ⊥

abbrev pub CancelsBy : List ℕ → Option (List ℕ) → Data → Seen → Data → Type 0
CancelsBy name id w (replied answer) v =
    (answer.content ≡ []) × IsCancelReply w.held w.claims name id answer.reply
    × Cancels name id (Ok answer.reply) w.held v.held × (v.claims ≡ w.claims)
CancelsBy name id w (failed trouble) v = Cancels name id (Err trouble) w.held v.held × (v.claims ≡ w.claims)
CancelsBy name id w seen v = ⊥

abbrev pub FinishesBy : Held → Staged → List ℕ → Data → Seen → Data → Type 0
FinishesBy held staged digest w (came_to ending) v =
    EndsUpload w.claims held staged digest ending w.held v.held × (v.claims ≡ w.claims)
FinishesBy held staged digest w seen v = ⊥

abbrev pub ClosesBy : Held → Data → Seen → Data → Type 0
ClosesBy held w ended v =
    RemovesStart {A = Unit {0}} held.name held.id (Ok tt) w.held v.held
    × (v.claims ≡ without (claim_of held) w.claims)
ClosesBy held w (failed trouble) v =
    RemovesStart {A = Unit {0}} held.name held.id (Err trouble) w.held v.held
    × (v.claims ≡ without (claim_of held) w.claims)
ClosesBy held w seen v = ⊥

-- An act may lead from w to v, and be seen so.
abbrev pub Move : Data → Act → Seen → Data → Type 0
Move w (answers ask) seen v = AnswersBy ask w seen v
Move w (starts name mount id now) seen v = ChangesBy (Starts name id mount now) w seen v
Move w (pushes name at pushed) seen v = ChangesBy (Pushes name at pushed) w seen v
Move w (drops name at) seen v = ChangesBy (Drops name at) w seen v
Move w (unlinks name digest) seen v = ChangesBy (Unlinks name digest) w seen v
Move w (locates name id) seen v = LocatesBy name id w seen v
Move w (takes who name id start) seen v = TakesBy who name id start w seen v
Move w (shelves held staged faults) ended v =
    (v.held ≡ with_shelved w.held staged) × (v.claims ≡ without (claim_of held) w.claims)
Move w (cancels name id) seen v = CancelsBy name id w seen v
Move w (finishes held staged digest) seen v = FinishesBy held staged digest w seen v
Move w (releases held) ended v = (v.held ≡ w.held) × (v.claims ≡ without (claim_of held) w.claims)
Move w (closes held) seen v = ClosesBy held w seen v
Move w act seen v = ⊥

-- whether a device failed
abbrev pub IsFaulty : Act → Seen → Type 0
IsFaulty (shelves held staged faults) seen = 0 < faults
IsFaulty act (failed troubles.Depot) = ⊤
IsFaulty act (came_to ending) = HasFailedToEnd ending
IsFaulty act seen = ⊥

-- it may be seen so, whatever the devices hold
abbrev pub FitsAct : Act → Seen → Type 0
FitsAct (answers ask) (replied answer) = Fits ask answer
FitsAct (takes who name id start) (failed trouble) = IsOfTake trouble
FitsAct act (failed trouble) = IsOfFiles trouble
FitsAct act seen = ⊤

-- the same over devices, whose fault is told only where their count rose
pub record Moves (old : Data) (act : Act) (seen : Seen) (new : Data) : Type 0 where
  pub tells : new.held.tells ≡ old.held.tells
  pub fits : FitsAct act seen
  pub cause : HasCause old.faults new.faults (IsFaulty act seen)
  pub move : Move old act seen new

-- what is seen of a call that answers a reply
abbrev pub seen_of : Result Reply Trouble → Seen
seen_of (Ok reply) = replied (plain reply)
seen_of (Err trouble) = failed trouble

-- and of one that gives a blob with it, whatever bytes the blob gives
abbrev pub SeesBlob : {B : Type 0} → (B → Rest) → Result (Reply × Option B) Trouble → Seen → Type 0
SeesBlob rest (Ok given) seen = (answer : Answer) × GivesBlob rest given answer × (seen ≡ replied answer)
SeesBlob rest (Err trouble) seen = seen ≡ failed trouble

-- of one that takes a session, by what its stage holds
abbrev pub staged_of : {S : Type 0} → (S → Staged) → Taken S → Taken Staged
staged_of staged (taken.Out held stage offset) = taken.Out held (staged stage) offset
staged_of staged (taken.Refused reply) = taken.Refused reply

abbrev pub seen_of_take : {S : Type 0} → (S → Staged) → Result (Taken S) Trouble → Seen
seen_of_take staged (Ok given) = gave (staged_of staged given)
seen_of_take staged (Err trouble) = failed trouble

-- and of one that answers nothing more
abbrev pub seen_of_end : Result (Unit {0}) Trouble → Seen
seen_of_end (Ok done) = ended
seen_of_end (Err trouble) = failed trouble
