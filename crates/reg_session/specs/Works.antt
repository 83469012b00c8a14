-- The last of a session: the request in work, and how the session ended.
use Rattle.std.specs.Prelude.{◌≡◌, ◌≢◌, ℕ, ◌<◌, ◌≤◌, ◌⊎◌, Bool, true, false, List, [], ◌∷◌, ◌++◌, Option, Some, Ok, Err, ⊤}
use Rattle.std.specs.Io.KnownBytes.{Appends, IsAtEnd}
use Rattle.http_wire.specs.Answers.{IsBadHead}
use Rattle.http_wire.specs.Bodies.{due, is_cut_short, is_malformed}
use Rattle.http_wire.specs.Filling.{Filling, within, is_too_long}
use Rattle.http_wire.specs.Heads.{Holds, is_nothing, is_cut}
use Rattle.http_wire.specs.Messages.{ReadsBody}
use Rattle.reg_entries.specs.Numbers as numbers
use Rattle.reg_entries.specs.declared.reply.Reply.{Reply}
use Rattle.reg_entries.specs.declared.reply.Reply.TheVariants as replies
use Rattle.reg_model.specs.Answers.{plain, refusal}
use Rattle.reg_model.specs.Blobs.{IsBlob}
use Rattle.reg_replies.specs.Replies.{wire}
use Rattle.reg_replies.specs.Writing.{TookFront, memory_wire}
use Rattle.reg_session.specs.declared.ended.Ended.{Ended}
use Rattle.reg_session.specs.declared.ended.Ended.TheVariants as ends
use Rattle.reg_session.specs.Sending.{Tries, BreaksOff}
use Rattle.reg_routes.specs.Routing.{Answer as Asked}
use Rattle.upload_sessions.specs.declared.taking.Taken.TheVariants as taken
use Rattle.reg_world.specs.Moves.{Act, shelves, Seen, gave}
use Rattle.reg_session.specs.Chains.{Hold}
use Rattle.reg_session.specs.Requests.{Parts, asked_in, head_only, is_last, awaits, upload_limit, limit_of, body_state, HasHead, ReadsRequest, ReadsFront}
use Rattle.reg_session.specs.Turns.{Replies, goes_on, MaySendBody, interim, Turn, IsTurn, wants_memory, content, opening, talk}
use Rattle.reg_session.specs.Uploads.{room_left, LeavesBy}

-- a request whose head was read, this front of its body, and the holds that were made for it
pub record Begun : Type 0 where
  pub parts : Parts
  pub begin : List ℕ
  pub holds : List Hold

-- what became of the request in work
pub data Work : Type 0 where
  -- there was none
  idle : Work
  -- its head was read
  began : Begun → Work
  -- bytes that are no head were refused, by the number of the refusal
  turned_away : ℕ → Work
  -- its body was refused, by the number of the refusal
  refused : Begun → ℕ → Work
  -- it was refused before its body came, since it waited to be told to go on, after these holds
  denied : Parts → List Hold → Reply → Work
  -- it was served
  served : Turn → Work

-- the holds that were made for it
abbrev pub holds_of : Work → List Hold
holds_of (began b) = b.holds
holds_of (refused b n) = b.holds
holds_of (denied p holds reply) = holds
holds_of (served t) = t.holds
holds_of work = []

-- ---- what was to be written

-- all of it
abbrev pub text_of : Work → List ℕ
text_of idle = []
text_of (began b) = interim b.parts b.holds
text_of (turned_away n) = wire (refusal n) false true
text_of (refused b n) = interim b.parts b.holds ++ wire (refusal n) (head_only b.parts) true
text_of (denied p holds reply) = wire reply (head_only p) true
text_of (served t) = talk t

-- what comes before the reply
abbrev pub before_reply : Work → List ℕ
before_reply (began b) = interim b.parts b.holds
before_reply (refused b n) = interim b.parts b.holds
before_reply (served t) = interim t.request.parts t.holds
before_reply work = []

-- whether it is answered without a body
abbrev pub is_head : Work → Bool
is_head (began b) = head_only b.parts
is_head (refused b n) = head_only b.parts
is_head (denied p holds reply) = head_only p
is_head (served t) = head_only t.request.parts
is_head work = false

-- ---- what was done

-- a hold is made only for a request whose Content-Length keeps the limit of uploads
abbrev pub MayHold : Parts → List Hold → Type 0
MayHold p [] = ⊤
MayHold p (h ∷ holds) = due (body_state p) ≤ upload_limit

-- the holds of a request of whose body this was read, and which is not answered
abbrev pub Leaves : Asked → List ℕ → List Hold → Type 0
Leaves (Ok ask) begin holds = LeavesBy ask begin holds
Leaves (Err reply) begin [] = ⊤
Leaves (Err reply) begin holds = ⊥

pub record IsBegun (b : Begun) : Type 0 where
  pub may : MayHold b.parts b.holds
  pub leaves : Leaves (asked_in b.parts) b.begin b.holds

-- its Content-Length passes the limit of uploads, which is refused before any hold, also where it waits to be told to
-- go on
pub record IsTooLongAtOnce (b : Begun) (n : ℕ) : Type 0 where
  pub number : n ≡ numbers.body_too_large
  pub none_held : b.holds ≡ []
  pub silent : goes_on (asked_in b.parts) b.holds ≡ false
  pub long : upload_limit < due (body_state b.parts)

-- its body was refused
pub record IsRefusedBody (b : Begun) (n : ℕ) : Type 0 where
  pub begun : IsBegun b
  pub told : MaySendBody b.parts b.holds ⊎ IsTooLongAtOnce b n

-- the reply is known from the head and the session of an upload, and the request is not told to go on
pub record IsDenied (p : Parts) (holds : List Hold) (reply : Reply) : Type 0 where
  pub waits : awaits p ≡ true
  pub known : goes_on (asked_in p) holds ≡ false
  pub may : MayHold p holds
  pub enough : wants_memory reply ≡ false
  pub replies_so : (body : List ℕ) → Replies (asked_in p) body holds (plain reply)

abbrev pub IsWork : Work → Type 0
IsWork (began b) = IsBegun b
IsWork (refused b n) = IsRefusedBody b n
IsWork (denied p holds reply) = IsDenied p holds reply
IsWork (served t) = IsTurn t
IsWork work = ⊤

-- ---- what was read

-- the bytes that the limit of uploads leaves to one whose session was given, or the limit of the request
abbrev pub room_of : Option ℕ → Seen → Option ℕ
room_of limit (gave (taken.Out held staged offset)) = Some (room_left staged)
room_of limit seen = limit

abbrev pub room_by : Option ℕ → List Hold → Option ℕ
room_by limit [] = limit
room_by limit (h ∷ holds) = room_of limit h.seen

-- the limit of the body of a request that was begun
abbrev pub room_in : Begun → Option ℕ
room_in b = room_by (limit_of b.parts) b.holds

-- the bytes are a head of these parts, and a body of which this was decoded, and which ends so
abbrev pub HasBody : Begun → Filling → List ℕ → Type 0
HasBody b filling bytes =
    (behind : List ℕ) × HasHead bytes b.parts behind
    × ReadsBody (room_in b) (body_state b.parts) behind b.begin filling

-- the stage of a session that was given back had failed
abbrev pub IsOfFailed : Act → Type 0
IsOfFailed (shelves held staged faults) = 0 < faults
IsOfFailed act = ⊥

abbrev pub HasFailedStage : List Hold → Type 0
HasFailedStage (h ∷ i ∷ holds) = IsOfFailed i.act
HasFailedStage holds = ⊥

-- The body behind a head is refused: it passes what may come of it, or is malformed. A stage that failed may hold some
-- of the piece at which it failed, which is read again as the rest of the body is dropped: then some bytes count twice.
abbrev pub IsBadBehind : Begun → ℕ → List ℕ → Type 0
IsBadBehind b n behind =
    ((n ≡ numbers.body_too_large)
    × ReadsBody (room_in b) (body_state b.parts) behind b.begin is_too_long)
    ⊎ (((n ≡ numbers.body_too_large) × HasFailedStage b.holds
    × ((rest : List ℕ) × ReadsFront (room_in b) (body_state b.parts) behind b.begin rest))
    ⊎ ((n ≡ numbers.not_a_request)
    × ReadsBody (room_in b) (body_state b.parts) behind b.begin (within is_malformed)))

abbrev pub IsBadBody : Begun → ℕ → List ℕ → Type 0
IsBadBody b n bytes = (behind : List ℕ) × HasHead bytes b.parts behind × IsBadBehind b n behind

abbrev pub Took : Work → List ℕ → List ℕ → Type 0
Took idle old new = new ≡ old
Took (began b) old new =
    (behind : List ℕ) × HasHead old b.parts behind
    × ReadsFront (room_in b) (body_state b.parts) behind b.begin new
Took (turned_away n) old new = IsBadHead old n
Took (refused b n) old new = IsBadBody b n old
Took (denied p holds reply) old new = HasHead old p new
Took (served t) old new = ReadsRequest old t.request new

-- ---- how it ended

-- the number of a refusal
abbrev pub number_of : Reply → ℕ
number_of (replies.WrongStart name id offset) = numbers.wrong_start
number_of (replies.NotAllowed route) = numbers.method_not_allowed
number_of (replies.Refused told) = told.number
number_of reply = 0

-- no reply to the request was due yet
abbrev pub IsUnanswered : Work → Type 0
IsUnanswered idle = ⊤
IsUnanswered (began b) = MaySendBody b.parts b.holds
IsUnanswered work = ⊥

-- there was no request, or one that ended the connection, and memory was not wanting for its answer
abbrev pub IsDone : Work → Type 0
IsDone idle = ⊤
IsDone (served t) = (is_last t.request.parts ≡ true) × (wants_memory t.answer.reply ≡ false)
IsDone work = ⊥

-- there was a text to write, and not because memory was wanting
abbrev pub IsWriting : Work → Type 0
IsWriting (served t) = wants_memory t.answer.reply ≡ false
IsWriting work = text_of work ≢ []

abbrev pub IsRefusedBy : ℕ → Work → Type 0
IsRefusedBy n (turned_away m) = n ≡ m
IsRefusedBy n (refused b m) = n ≡ m
IsRefusedBy n (denied p holds reply) = n ≡ number_of reply
IsRefusedBy n work = ⊥

-- a blob was being sent
abbrev pub IsSendingBlob : Work → Type 0
IsSendingBlob (served t) = IsBlob t.answer.reply × (head_only t.request.parts ≡ false)
IsSendingBlob work = ⊥

-- which work a session may end with
abbrev pub EndsWith : {B : Type 0} → Ended B → Work → Type 0
EndsWith ends.Done work = IsDone work
EndsWith (ends.Refused n) work = IsRefusedBy n work
EndsWith ends.Cut work = IsUnanswered work
EndsWith ends.SourceFault work = IsUnanswered work
EndsWith ends.SinkFault work = IsWriting work
EndsWith (ends.BlobFault blob) work = IsSendingBlob work
EndsWith ends.Long work = IsUnanswered work
EndsWith ends.NoMemory work = ⊤

-- the input ended between requests
abbrev pub EndsBetween : Work → List ℕ → Type 0
EndsBetween idle bytes = Holds bytes is_nothing
EndsBetween work bytes = ⊤

-- or inside a head, or inside a body
abbrev pub EndsInside : Work → List ℕ → Type 0
EndsInside idle bytes = Holds bytes is_cut
EndsInside (began b) bytes = HasBody b (within is_cut_short) bytes
EndsInside work bytes = ⊥

-- what the bytes before the work are then
abbrev pub EndsOn : {B : Type 0} → Ended B → Work → List ℕ → Type 0
EndsOn ends.Done work bytes = EndsBetween work bytes
EndsOn ends.Cut work bytes = EndsInside work bytes
EndsOn ended work bytes = ⊤

-- the source has nothing left where the input ended
abbrev pub LeavesNothing : {B : Type 0} → Ended B → Work → Option (List ℕ) → Type 0
LeavesNothing ends.Done idle left = IsAtEnd left
LeavesNothing ends.Cut work left = IsAtEnd left
LeavesNothing ended work left = ⊤

-- ---- what was written

abbrev pub BreaksInBlob : Option (List ℕ) → Option (List ℕ) → Work → Type 0
BreaksInBlob old new (served t) = BreaksOff old new (opening t) (content t.request.parts t.answer)
BreaksInBlob old new work = ⊥

-- what was written before memory was wanting: all that comes before the reply, or nothing, where only the head was read
abbrev pub IsBefore : Work → List ℕ → Type 0
IsBefore (began b) said = (said ≡ interim b.parts b.holds) ⊎ ((said ≡ []) × (b.begin ≡ []))
IsBefore work said = said ≡ before_reply work

-- and behind it the reply for want of memory, as far as the sink went
pub record WroteMemory (failed : Type 0) (old new : Option (List ℕ)) (work : Work) : Type 0 where
  pub said : List ℕ
  pub before : IsBefore work said
  pub mid : Option (List ℕ)
  pub took : Appends old mid said
  pub reply : Tries failed mid new (memory_wire (is_head work))

-- All was written; where the sink failed, a front of it; where a blob failed, all up to a place inside the blob; and
-- where memory was wanting, the reply that says so, all of it unless the sink failed.
abbrev pub Wrote : {B : Type 0} → Type 0 → Ended B → Option (List ℕ) → Option (List ℕ) → Work → Type 0
Wrote failed ends.SinkFault old new work = TookFront old new (text_of work)
Wrote failed (ends.BlobFault blob) old new work = BreaksInBlob old new work
Wrote failed ends.NoMemory old new work = WroteMemory failed old new work
Wrote failed ended old new work = Appends old new (text_of work)
