-- The proof's own: no public clause cites what stands here.
-- What one request does.
use Rattle.std.specs.Prelude.{◌≡◌, ℕ, ◌<◌, ◌≤◌, ◌^◌, Bool, true, false, List, [], Option, Ok, ⊤}
use Rattle.std.specs.Io.KnownBytes.{Appends}
use Rattle.reg_names.specs.Cause.{HasCause}
use Rattle.http_wire.specs.Bodies.{ends_before, is_cut_short, is_malformed}
use Rattle.http_wire.specs.Filling.{within, is_too_long}
use Rattle.http_wire.specs.Flow.{Flow, spent, OnStream}
use Rattle.http_wire.specs.Limits.{feed_limit}
use Rattle.http_wire.specs.Messages.{ReadsBody}
use Rattle.reg_entries.specs.Numbers as numbers
use Rattle.reg_entries.specs.declared.ask.Ask.{Ask}
use Rattle.reg_entries.specs.declared.ask.Ask.TheVariants as asks
use Rattle.reg_entries.specs.declared.reply.Reply.{Reply}
use Rattle.reg_model.specs.Answers.{Answer, plain}
use Rattle.reg_world.specs.Worlds.{Data}
use Rattle.reg_session.specs.declared.bodies.Dropped.{Dropped}
use Rattle.reg_session.specs.declared.bodies.Dropped.TheVariants as dropped
use Rattle.reg_session.specs.declared.ended.Ended.{Ended}
use Rattle.reg_session.specs.declared.ended.Ended.TheVariants as ends
use Rattle.reg_session.specs.declared.ended.Step.{Step}
use Rattle.reg_session.specs.declared.ended.Step.TheVariants as steps
use Rattle.reg_session.specs.InnerReplies.{IfStepBlob, RefusesWith}
use Rattle.depot_api.specs.Ids.{Words}
use Rattle.reg_session.specs.Chains.{Hold, Chain, Own, BringsAll}
use Rattle.reg_session.specs.Requests.{Parts, asked_in, limit_of, body_state, ReadsRequest, ReadsFront}
use Rattle.reg_session.specs.Sessions.{At, IsServed, EndsBy}
use Rattle.reg_session.specs.Turns.{Replies, RepliesTo, goes_on, LooksFirst, Turn, talk}
use Rattle.reg_session.specs.Works.{Begun, Work, idle, began, turned_away, refused, denied, served, holds_of, room_by, room_in, IsBadBehind, IsWork, MayHold, Leaves, EndsWith, LeavesNothing, Wrote}

-- ---- one request

-- it was served, and the session goes on
pub record ServesOne (between : Data → Data → Type 0) (o : Own) (old new : At) (t : Turn) : Type 0 where
  pub is : IsServed t
  pub holds : Chain between old.world t.holds new.world
  pub brings : BringsAll o old.words t.holds new.words
  pub read : OnStream old.bytes new.bytes (λ bytes rest. ReadsRequest bytes t.request rest)
  pub wrote : Appends old.written new.written (talk t)

-- so it was, or the session ended with it
abbrev pub Exchanges : {B : Type 0} → (Data → Data → Type 0) → Own → Type 0 → At → At → Step B → Type 0
Exchanges between o failed old new steps.Next = (t : Turn) × ServesOne between o old new t
Exchanges between o failed old new (steps.Ended ended) = (work : Work) × EndsBy between o failed old new ended work

-- ---- the same of a request whose head was read, and has these parts

-- the bytes to come, what the source has left of them, and the bytes written
pub record Line : Type 0 where
  pub bytes : Option (List ℕ)
  pub left : Option (List ℕ)
  pub written : Option (List ℕ)

abbrev pub line : Option (List ℕ) → Option (List ℕ) → Option (List ℕ) → Line
line bytes left written = record { bytes = bytes; left = left; written = written }

abbrev pub TookBehind : Parts → Work → List ℕ → List ℕ → Type 0
TookBehind p idle old new = ⊥
TookBehind p (began b) old new =
    (b.parts ≡ p) × ReadsFront (room_in b) (body_state b.parts) old b.begin new
TookBehind p (turned_away n) old new = ⊥
TookBehind p (refused b n) old new = (b.parts ≡ p) × IsBadBehind b n old
TookBehind p (denied q holds reply) old new = (q ≡ p) × (new ≡ old)
TookBehind p (served t) old new =
    (t.request.parts ≡ p)
    × ReadsBody (limit_of t.request.parts) (body_state t.request.parts) old t.request.body (within (ends_before new))

abbrev pub IsCutBehind : Work → List ℕ → Type 0
IsCutBehind (began b) old = ReadsBody (room_in b) (body_state b.parts) old b.begin (within is_cut_short)
IsCutBehind work old = ⊥

abbrev pub EndsOnBehind : {B : Type 0} → Ended B → Work → List ℕ → Type 0
EndsOnBehind ends.Cut work old = IsCutBehind work old
EndsOnBehind ended work old = ⊤

-- the request was served, and the session goes on
pub record ServesBehind (p : Parts) (old new : Line) (t : Turn) : Type 0 where
  pub is : IsServed t
  pub read : OnStream old.bytes new.bytes (TookBehind p (served t))
  pub wrote : Appends old.written new.written (talk t)

-- the session ended with it
pub record EndsBehind {B : Type 0} (failed : Type 0) (p : Parts) (old new : Line) (ended : Ended B) (work : Work)
    : Type 0 where
  pub done : IsWork work
  pub ends : EndsWith ended work
  pub read : OnStream old.bytes new.bytes (λ bytes rest. TookBehind p work bytes rest × EndsOnBehind ended work bytes)
  pub at_end : LeavesNothing ended work new.left
  pub wrote : Wrote failed ended old.written new.written work

-- one or the other, with these holds
abbrev pub Behind : {B : Type 0} → Type 0 → Parts → Line → Line → List Hold → Step B → Type 0
Behind failed p old new holds steps.Next = (t : Turn) × (t.holds ≡ holds) × ServesBehind p old new t
Behind failed p old new holds (steps.Ended ended) =
    (work : Work) × (holds_of work ≡ holds) × EndsBehind failed p old new ended work

-- the world, and the words to come of which ids are made
pub record Store : Type 0 where
  pub world : Data
  pub words : Words

abbrev pub store : Data → Words → Store
store world words = record { world = world; words = words }

-- holds were made, of what a session brings
pub record Makes (between : Data → Data → Type 0) (o : Own) (old new : Store) (holds : List Hold) : Type 0 where
  pub chain : Chain between old.world holds new.world
  pub brings : BringsAll o old.words holds new.words

pub record Responds {B : Type 0} (between : Data → Data → Type 0) (o : Own) (failed : Type 0) (p : Parts)
    (from to : Store) (old new : Line) (step : Step B) : Type 0 where
  pub holds : List Hold
  pub makes : Makes between o from to holds
  pub behind : Behind failed p old new holds step

-- ---- answers

-- the asks that are answered by one hold or by none, whatever their body is
abbrev pub is_single : Ask → Bool
is_single (asks.PutManifest name at typed) = false
is_single (asks.Patch name id start) = false
is_single (asks.Finish name id digest start) = false
is_single ask = true

-- and those of them that no blob answers
abbrev pub is_plain_single : Ask → Bool
is_plain_single (asks.GetBlob name digest) = false
is_plain_single ask = is_single ask

-- an ask is answered by these holds, behind a body of these bytes
pub record Decides (between : Data → Data → Type 0) (o : Own) (from to : Store) (ask : Ask) (body : List ℕ)
    (answer : Answer) : Type 0 where
  pub holds : List Hold
  pub replies_so : RepliesTo ask body holds answer
  pub makes : Makes between o from to holds

-- the reply is known from the head, and from the holds
pub record IsKnown (p : Parts) (holds : List Hold) (reply : Reply) : Type 0 where
  pub silent : goes_on (asked_in p) holds ≡ false
  pub looks : LooksFirst (asked_in p) holds
  pub may : MayHold p holds
  pub room : room_by (limit_of p) holds ≡ limit_of p
  pub replies_so : (body : List ℕ) → Replies (asked_in p) body holds (plain reply)
  pub leaves : (begin : List ℕ) → Leaves (asked_in p) begin holds

-- ---- causes

-- faults are told only where the counts rose, and the end for length only once so many bytes were taken
pub record StepCauses {B : Type 0} (source_before source_now sink_before sink_now taken : ℕ) (faults : B → ℕ)
    (step : Step B) : Type 0 where
  pub source : HasCause source_before source_now (step ≡ steps.Ended ends.SourceFault)
  pub sink : HasCause sink_before sink_now (step ≡ steps.Ended ends.SinkFault)
  pub blob : IfStepBlob faults step
  pub long : step ≡ steps.Ended ends.Long → feed_limit ≤ taken

-- a request that was served took bytes off the stream, of which there are not so many
abbrev pub Advances : {B : Type 0} → Flow → Flow → Step B → Type 0
Advances old new steps.Next = (spent old < spent new) × (spent old < 2 ^ 51)
Advances old new (steps.Ended ended) = ⊤

-- ---- bodies that did not come whole

abbrev pub IsBroken : Dropped → Type 0
IsBroken dropped.Whole = ⊥
IsBroken answer = ⊤

-- what becomes of a request whose body came so
abbrev pub broken : Begun → Dropped → Work
broken b dropped.TooLong = refused b numbers.body_too_large
broken b dropped.Malformed = refused b numbers.not_a_request
broken b answer = began b

-- how the session ends then
abbrev pub BreaksWith : {B : Type 0} → Dropped → Ended B → Type 0
BreaksWith dropped.TooLong ended = RefusesWith numbers.body_too_large ended
BreaksWith dropped.Malformed ended = RefusesWith numbers.not_a_request ended
BreaksWith dropped.Cut ended = ended ≡ ends.Cut
BreaksWith dropped.SourceFault ended = ended ≡ ends.SourceFault
BreaksWith dropped.Long ended = ended ≡ ends.Long
BreaksWith dropped.NoMemory ended = ended ≡ ends.NoMemory
BreaksWith dropped.Whole ended = ⊥
