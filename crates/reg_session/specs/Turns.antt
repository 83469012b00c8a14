-- One request and its reply, by the holds that were made for it.
use Rattle.std.specs.Prelude.{◌≡◌, ◌==◌, ℕ, Bool, true, false, ◌&&◌, ◌||◌, List, [], ◌∷◌, ◌++◌, if◌then◌else◌, codes, Ok, Err, ⊤}
use Rattle.reg_entries.specs.Numbers as numbers
use Rattle.reg_entries.specs.declared.ask.Ask.{Ask}
use Rattle.reg_entries.specs.declared.ask.Ask.TheVariants as asks
use Rattle.reg_entries.specs.declared.reply.Reply.{Reply}
use Rattle.reg_entries.specs.declared.reply.Reply.TheVariants as replies
use Rattle.reg_model.specs.Answers.{Answer, plain}
use Rattle.reg_replies.specs.Replies.{wire}
use Rattle.reg_routes.specs.Routing.{Answer as Asked}
use Rattle.upload_sessions.specs.declared.taking.Taken.TheVariants as taken
use Rattle.reg_world.specs.Moves.{Seen, gave}
use Rattle.reg_session.specs.Answering.{AnswersAs, AnswersAlways, IsActOf}
use Rattle.reg_session.specs.Chains.{Hold}
use Rattle.reg_session.specs.Requests.{Parts, Request, asked_in, head_only, is_last, awaits}
use Rattle.reg_session.specs.Uploads.{Patches, Finishes}

-- ---- replies

-- the holds that a request with this body makes, and its answer: none where it is refused for its head, else one, but
-- for an upload
abbrev pub RepliesTo : Ask → List ℕ → List Hold → Answer → Type 0
RepliesTo (asks.Patch name id start) body holds answer = Patches name id start body holds answer
RepliesTo (asks.Finish name id digest start) body holds answer = Finishes name id digest start body holds answer
RepliesTo ask body [] answer = AnswersAlways ask answer
RepliesTo ask body (h ∷ []) answer = IsActOf ask body h.act × AnswersAs h.seen answer
RepliesTo ask body holds answer = ⊥

abbrev pub Replies : Asked → List ℕ → List Hold → Answer → Type 0
Replies (Err reply) body [] answer = answer ≡ plain reply
Replies (Err reply) body holds answer = ⊥
Replies (Ok ask) body holds answer = RepliesTo ask body holds answer

-- ---- texts

-- a session was given by the first hold
abbrev pub gives_session : Seen → Bool
gives_session (gave (taken.Out held staged offset)) = true
gives_session seen = false

abbrev pub is_given : List Hold → Bool
is_given [] = false
is_given (h ∷ holds) = gives_session h.seen

-- a request that waits for it is told to go on, unless its refusal is known before its body: that of an upload, once
-- its session is given
abbrev pub goes_on_for : Ask → List Hold → Bool
goes_on_for (asks.Patch name id start) holds = is_given holds
goes_on_for (asks.Finish name id digest start) holds = is_given holds
goes_on_for ask holds = true

abbrev pub goes_on : Asked → List Hold → Bool
goes_on (Ok ask) holds = goes_on_for ask holds
goes_on (Err reply) holds = false

-- what is asked for is not to add to an upload
abbrev pub NeedsNoSession : Asked → Type 0
NeedsNoSession (Ok (asks.Patch name id start)) = ⊥
NeedsNoSession (Ok (asks.Finish name id digest start)) = ⊥
NeedsNoSession asked = ⊤

-- the first hold looks for the session of an upload
abbrev pub LooksFirst : Asked → List Hold → Type 0
LooksFirst asked [] = NeedsNoSession asked
LooksFirst asked (h ∷ holds) = ⊤

-- its body may come: the session of an upload was looked for, and where the client waits to be told to go on, it is
-- told, since else it is refused at once
pub record MaySendBody (p : Parts) (holds : List Hold) : Type 0 where
  pub looks : LooksFirst (asked_in p) holds
  pub told : awaits p ≡ true → goes_on (asked_in p) holds ≡ true

-- the interim reply (RFC 9110, section 15.2.1)
abbrev pub continue_line : List ℕ
continue_line = codes "HTTP/1.1 100 Continue\r\n\r\n"

abbrev pub interim : Parts → List Hold → List ℕ
interim p holds = if awaits p && goes_on (asked_in p) holds then continue_line else []

-- a request that was served
pub record Turn : Type 0 where
  pub request : Request
  pub holds : List Hold
  pub answer : Answer

-- its answer is that of its holds, behind its body
pub record IsTurn (t : Turn) : Type 0 where
  pub replies_so : Replies (asked_in t.request.parts) t.request.body t.holds t.answer
  pub told : MaySendBody t.request.parts t.holds

abbrev pub wants_memory : Reply → Bool
wants_memory (replies.Refused told) = told.number == numbers.no_memory
wants_memory reply = false

-- the connection ends behind it
abbrev pub closes : Turn → Bool
closes t = is_last t.request.parts || wants_memory t.answer.reply

-- the bytes of a blob that follow the reply to a request
abbrev pub content : Parts → Answer → List ℕ
content p answer = if head_only p then [] else answer.content

-- what stands before these: the interim reply, and the reply
abbrev pub opening : Turn → List ℕ
opening t = interim t.request.parts t.holds ++ wire t.answer.reply (head_only t.request.parts) (closes t)

abbrev pub talk : Turn → List ℕ
talk t = opening t ++ content t.request.parts t.answer
