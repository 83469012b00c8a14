-- The proof's own: no public clause cites what stands here.
-- How far a reply was written, and what follows it.
use Rattle.std.specs.Prelude.{◌≡◌, ℕ, ◌<◌, Bool, false, true, ◌||◌, List, [], ◌++◌, if◌then◌else◌, Option, ⊤}
use Rattle.std.specs.Io.KnownBytes.{Appends}
use Rattle.depot_api.specs.Blobs.{Rest}
use Rattle.reg_entries.specs.declared.reply.Reply.{Reply}
use Rattle.reg_model.specs.Answers.{Answer}
use Rattle.reg_model.specs.Blobs.{HasLeft, LeavesBytes, IsBlob}
use Rattle.reg_replies.specs.Replies.{wire}
use Rattle.reg_replies.specs.Writing.{TookFront, memory_wire}
use Rattle.reg_session.specs.declared.ended.Ended.{Ended}
use Rattle.reg_session.specs.declared.ended.Ended.TheVariants as ends
use Rattle.reg_session.specs.declared.ended.Step.{Step}
use Rattle.reg_session.specs.declared.ended.Step.TheVariants as steps
use Rattle.reg_session.specs.Requests.{Parts, head_only, is_last, awaits}
use Rattle.reg_session.specs.Turns.{wants_memory, content, continue_line}
use Rattle.reg_session.specs.Sending.{Tries, BreaksOff}

-- the interim reply for a request that waits for it
abbrev pub line_for : Parts → List ℕ
line_for p = if awaits p then continue_line else []

-- a refusal ended the session, or the sink failed, or memory was wanting
abbrev pub RefusesWith : {B : Type 0} → ℕ → Ended B → Type 0
RefusesWith number (ends.Refused n) = n ≡ number
RefusesWith number ends.SinkFault = ⊤
RefusesWith number ends.NoMemory = ⊤
RefusesWith number ended = ⊥

-- behind a reply that was written the session goes on, or ends
abbrev pub GoesOn : {B : Type 0} → Bool → Step B → Type 0
GoesOn last steps.Next = last ≡ false
GoesOn last (steps.Ended ended) = (last ≡ true) × (ended ≡ ends.Done)

-- a head and the bytes behind it were written, and the session goes on or ends; or a front of them was
abbrev pub WritesAll : {B : Type 0} → Bool → List ℕ → List ℕ → Option (List ℕ) → Option (List ℕ) → Step B → Type 0
WritesAll last head body old new steps.Next = (last ≡ false) × Appends old new (head ++ body)
WritesAll last head body old new (steps.Ended ends.Done) = (last ≡ true) × Appends old new (head ++ body)
WritesAll last head body old new (steps.Ended ends.SinkFault) = TookFront old new (head ++ body)
WritesAll last head body old new (steps.Ended (ends.BlobFault blob)) = BreaksOff old new head body
WritesAll last head body old new step = ⊥

-- a blob is sent behind a head, unless the head is all that was asked for
pub record SendsAfter {B : Type 0} (rest : Rest) (only : Bool) (last : Bool) (head : List ℕ)
    (old new : Option (List ℕ)) (step : Step B) : Type 0 where
  pub bytes : List ℕ
  pub of_blob : HasLeft rest bytes
  pub writes : WritesAll last head (if only then [] else bytes) old new step

-- no blob broke off
abbrev pub IsWhole : {B : Type 0} → Step B → Type 0
IsWhole (steps.Ended (ends.BlobFault blob)) = ⊥
IsWhole step = ⊤

-- ---- a reply to a request

abbrev pub closing : Parts → Answer → Bool
closing p answer = is_last p || wants_memory answer.reply

abbrev pub reply_head : Parts → Answer → List ℕ
reply_head p answer = wire answer.reply (head_only p) (closing p answer)

-- all of it was written, and the session goes on, or ends; or a front of it was; or the reply for want of memory
abbrev pub ConcludesSo : {B : Type 0} → Type 0 → Parts → Answer → Option (List ℕ) → Option (List ℕ) → Step B → Type 0
ConcludesSo failed p answer old new steps.Next =
    (closing p answer ≡ false) × Appends old new (reply_head p answer ++ content p answer)
ConcludesSo failed p answer old new (steps.Ended ends.Done) =
    (is_last p ≡ true) × (wants_memory answer.reply ≡ false)
    × Appends old new (reply_head p answer ++ content p answer)
ConcludesSo failed p answer old new (steps.Ended ends.SinkFault) =
    (wants_memory answer.reply ≡ false) × TookFront old new (reply_head p answer ++ content p answer)
ConcludesSo failed p answer old new (steps.Ended (ends.BlobFault blob)) =
    IsBlob answer.reply × (head_only p ≡ false) × BreaksOff old new (reply_head p answer) (content p answer)
ConcludesSo failed p answer old new (steps.Ended ends.NoMemory) = Tries failed old new (memory_wire (head_only p))
ConcludesSo failed p answer old new step = ⊥

-- some bytes are as many as a blob has left, if there is one
abbrev pub LeavesSome : {B : Type 0} → (B → Rest) → Option B → Type 0
LeavesSome rest blob = (bytes : List ℕ) × LeavesBytes rest blob bytes

pub record Concludes {B : Type 0} (rest : B → Rest) (failed : Type 0) (p : Parts) (reply : Reply) (blob : Option B)
    (old new : Option (List ℕ)) (step : Step B) : Type 0 where
  pub bytes : List ℕ
  pub of_blob : LeavesBytes rest blob bytes
  pub so : ConcludesSo failed p (record { reply = reply; content = bytes }) old new step

-- ---- what a step says of a blob, and of the source

abbrev pub IfStepBlob : {B : Type 0} → (B → ℕ) → Step B → Type 0
IfStepBlob faults (steps.Ended (ends.BlobFault blob)) = 0 < faults blob
IfStepBlob faults step = ⊤

-- the source has no part in what follows a reply
abbrev pub IsAfterReply : {B : Type 0} → Step B → Type 0
IsAfterReply (steps.Ended ends.SourceFault) = ⊥
IsAfterReply (steps.Ended ends.Cut) = ⊥
IsAfterReply (steps.Ended ends.Long) = ⊥
IsAfterReply (steps.Ended (ends.Refused n)) = ⊥
IsAfterReply step = ⊤
