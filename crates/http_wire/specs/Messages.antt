-- The messages of a stream (RFC 9112, sections 2 to 9): requests, each a head and a decoded body, that stand one
-- behind the other from the front, up to the first place where there is none, or a message that ends the connection.
use Rattle.std.specs.Prelude.{◌≡◌, ℕ, suc, ◌⊎◌, Bool, true, false, List, [], ◌∷◌, map, Option, Some, None}
use Rattle.httparse.specs.Grammar.{RequestHead}
use Rattle.httparse.specs.Spans.{name_and_value}
use Rattle.http_wire.specs.declared.body.BodyState.{BodyState}
use Rattle.http_wire.specs.Bodies.{Outcome, ends_before, is_cut_short, is_malformed, Runs}
use Rattle.http_wire.specs.BodyAnswers.{first_state}
use Rattle.http_wire.specs.Filling.{Filling, within, is_too_long, Fills}
use Rattle.http_wire.specs.Framing.{framing_by}
use Rattle.http_wire.specs.Heads.{begins, is_nothing, is_cut, is_too_large, Holds}
use Rattle.http_wire.specs.Heads as heads
use Rattle.http_wire.specs.Questions.{ends_connection}

-- a request
pub record Message : Type 0 where
  pub head : RequestHead
  pub body : List ℕ

-- the names and the values of the fields of a head
abbrev pub field_values : RequestHead → List (List ℕ × List ℕ)
field_values h = map name_and_value h.fields

-- where a reader of the body begins
abbrev pub body_start : RequestHead → BodyState
body_start h = first_state (framing_by h.minor (field_values h))

-- the connection ends behind the message
abbrev pub is_last : Message → Bool
is_last m = ends_connection m.head.minor (field_values m.head)

-- the most bytes of the body of each request, by its number, from 0, and its head; none where the body is only dropped
abbrev pub Limits : Type 0
Limits = ℕ → RequestHead → Option ℕ

-- those of the requests behind the first one
abbrev pub behind_first : Limits → Limits
behind_first limits number = limits (suc number)

-- what a reader makes of the bytes to come, of which so many decoded ones may come, or any number
abbrev pub ReadsBody : Option ℕ → BodyState → List ℕ → List ℕ → Filling → Type 0
ReadsBody (Some most) state bytes decoded filling = Fills most state bytes decoded filling
ReadsBody None state bytes decoded filling =
    (outcome : Outcome) × Runs state bytes decoded outcome × (filling ≡ within outcome)

-- the bytes are a head, and behind it a body that decodes so and ends so
abbrev pub HasBody : Option ℕ → List ℕ → RequestHead → List ℕ → Filling → Type 0
HasBody limit bytes h decoded filling =
    (behind : List ℕ) × Holds bytes (begins h behind) × ReadsBody limit (body_start h) behind decoded filling

-- the bytes are a spelling of the message, whose body keeps the limit, and then the rest
abbrev pub ReadsMessage : Option ℕ → List ℕ → Message → List ℕ → Type 0
ReadsMessage limit bytes m rest = HasBody limit bytes m.head m.body (within (ends_before rest))

-- a body that decodes to something and ends so
abbrev pub HasSomeBody : (RequestHead → Option ℕ) → List ℕ → Filling → Type 0
HasSomeBody limit bytes filling = (h : RequestHead) × (decoded : List ℕ) × HasBody (limit h) bytes h decoded filling

-- how a list of messages ends
pub data Ending : Type 0 where
  -- the last one ended the connection, and these bytes stand behind it
  closed_before : List ℕ → Ending
  -- the input ended between messages, or inside one
  is_complete is_broken_off : Ending
  -- what stands there is malformed, has too large a head, or a body that passes its limit
  is_no_message has_large_head has_long_body : Ending

-- no message begins here, for that reason
abbrev pub HasNoMessage : (RequestHead → Option ℕ) → List ℕ → Ending → Type 0
HasNoMessage limit bytes (closed_before rest) = ⊥
HasNoMessage limit bytes is_complete = Holds bytes is_nothing
HasNoMessage limit bytes is_broken_off = Holds bytes is_cut ⊎ HasSomeBody limit bytes (within is_cut_short)
HasNoMessage limit bytes is_no_message = Holds bytes heads.is_malformed ⊎ HasSomeBody limit bytes (within is_malformed)
HasNoMessage limit bytes has_large_head = Holds bytes is_too_large
HasNoMessage limit bytes has_long_body = HasSomeBody limit bytes is_too_long

-- the messages from the front, and how they end
abbrev pub Messages : Limits → List ℕ → List Message → Ending → Type 0
Messages limits bytes [] ending = HasNoMessage (limits 0) bytes ending
Messages limits bytes (m ∷ messages) ending =
    (rest : List ℕ) × ReadsMessage (limits 0 m.head) bytes m rest
    × (((is_last m ≡ true) × (messages ≡ []) × (ending ≡ closed_before rest))
    ⊎ ((is_last m ≡ false) × Messages (behind_first limits) rest messages ending))
