-- Requests as a session sees them, and the bytes that spell them.
use Rattle.std.specs.Prelude.{◌≡◌, ℕ, ◌^◌, Bool, nat_eq, List, [], ◌∷◌, codes, Option, Some, None, Ok, Err, ⊤}
use Rattle.std.specs.Cmp.Lexicographic.{pointwise}
use Rattle.httparse.specs.Grammar.{RequestHead}
use Rattle.http_wire.specs.declared.head.Head.{Head}
use Rattle.http_wire.specs.declared.body.BodyState.{BodyState}
use Rattle.http_wire.specs.Bodies.{ends_before}
use Rattle.http_wire.specs.BodyAnswers.{first_state}
use Rattle.http_wire.specs.Fields.{fields_of}
use Rattle.http_wire.specs.Filling.{within, FillsOn}
use Rattle.http_wire.specs.Framing.{framing_by}
use Rattle.http_wire.specs.Heads.{begins, Holds}
use Rattle.http_wire.specs.Messages.{Message, Limits, field_values, ReadsBody}
use Rattle.http_wire.specs.Questions.{ends_connection, expects_continue}
use Rattle.http_wire.specs.Reading.{Decodes}
use Rattle.reg_entries.specs.declared.ask.Ask.{Ask}
use Rattle.reg_entries.specs.declared.ask.Ask.TheVariants as asks
use Rattle.reg_routes.specs.Routing.{Answer, ask_of}

-- the parts of a head
pub record Parts : Type 0 where
  pub method : List ℕ
  pub target : List ℕ
  pub minor : ℕ
  pub fields : List (List ℕ × List ℕ)

-- a request: the parts of its head, and its decoded body
pub record Request : Type 0 where
  pub parts : Parts
  pub body : List ℕ

-- the parts of a head of the grammar, and of one that a call gave
abbrev pub parts_of : RequestHead → Parts
parts_of h = record { method = h.method; target = h.target; minor = h.minor; fields = field_values h }

abbrev pub parts_in : Head → Parts
parts_in h = record { method = h.method; target = h.target; minor = h.minor; fields = fields_of h }

-- ---- what a head says

-- what it asks for, or why that is refused
abbrev pub asked_in : Parts → Answer
asked_in p = ask_of p.method p.target p.fields

-- a reply to HEAD has no body (RFC 9110, section 9.3.2)
abbrev pub head_only : Parts → Bool
head_only p = pointwise nat_eq p.method (codes "HEAD")

-- the connection ends behind it
abbrev pub is_last : Parts → Bool
is_last p = ends_connection p.minor p.fields

-- it waits to be told to go on, before it sends its body
abbrev pub awaits : Parts → Bool
awaits p = expects_continue p.minor p.fields

-- where a reader of its body begins
abbrev pub body_state : Parts → BodyState
body_state p = first_state (framing_by p.minor p.fields)

-- ---- the limits of bodies

-- the most bytes of the body of an upload, and of any other body
abbrev pub upload_limit : ℕ
upload_limit = 2 ^ 40

abbrev pub body_limit : ℕ
body_limit = 4194304

abbrev pub limit_of_ask : Ask → ℕ
limit_of_ask (asks.Start name mount) = upload_limit
limit_of_ask (asks.Patch name id start) = upload_limit
limit_of_ask (asks.Finish name id digest start) = upload_limit
limit_of_ask ask = body_limit

-- none where the request is refused for its head: its body is dropped, however long it is
abbrev pub limit_by : Answer → Option ℕ
limit_by (Ok ask) = Some (limit_of_ask ask)
limit_by (Err reply) = None

abbrev pub limit_of : Parts → Option ℕ
limit_of p = limit_by (asked_in p)

-- the limits of the messages of a stream
abbrev pub limits : Limits
limits number head = limit_of (parts_of head)

-- ---- what stands in the stream

-- the bytes begin with a head of these parts, and then the others
abbrev pub HasHead : List ℕ → Parts → List ℕ → Type 0
HasHead bytes p behind = (h : RequestHead) × Holds bytes (begins h behind) × (parts_of h ≡ p)

-- the bytes are a spelling of the request, whose body keeps its limit, and then the rest
abbrev pub ReadsRequest : List ℕ → Request → List ℕ → Type 0
ReadsRequest bytes r rest =
    (behind : List ℕ) × HasHead bytes r.parts behind
    × ReadsBody (limit_of r.parts) (body_state r.parts) behind r.body (within (ends_before rest))

-- a front of a body, of which so many bytes may come, or any number: what was decoded on the way over some bytes
abbrev pub ReadsFront : Option ℕ → BodyState → List ℕ → List ℕ → List ℕ → Type 0
ReadsFront (Some most) state bytes begin rest = (last : BodyState) × FillsOn most state bytes begin last rest
ReadsFront None state bytes begin rest = (last : BodyState) × Decodes state bytes begin last rest

-- requests that stand one behind the other
abbrev pub Reads : List Request → List ℕ → List ℕ → Type 0
Reads [] old new = new ≡ old
Reads (r ∷ requests) old new = (mid : List ℕ) × ReadsRequest old r mid × Reads requests mid new

-- a message of the stream, as a request
abbrev pub IsMessageOf : Request → Message → Type 0
IsMessageOf r m = (parts_of m.head ≡ r.parts) × (m.body ≡ r.body)

abbrev pub AreMessagesOf : List Request → List Message → Type 0
AreMessagesOf [] [] = ⊤
AreMessagesOf (r ∷ requests) (m ∷ messages) = IsMessageOf r m × AreMessagesOf requests messages
AreMessagesOf requests messages = ⊥
