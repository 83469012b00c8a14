-- What the calls that read messages make of a stream, one after the other.
use Rattle.std.specs.Prelude.{◌≡◌, ℕ, ◌+◌, ◌⊎◌, false, List, [], ◌∷◌, ◌++◌}
use Rattle.http_wire.specs.declared.head.Head.{Head}
use Rattle.http_wire.specs.declared.head.Heading.{Heading}
use Rattle.http_wire.specs.declared.head.Heading.TheVariants as headings
use Rattle.http_wire.specs.declared.body.BodyState.{BodyState}
use Rattle.http_wire.specs.declared.body.BodyStep.{BodyStep}
use Rattle.http_wire.specs.declared.body.BodyStep.TheVariants as steps
use Rattle.http_wire.specs.declared.body.BodyTaken.{BodyTaken}
use Rattle.http_wire.specs.declared.body.BodyTaken.TheVariants as answers
use Rattle.http_wire.specs.Answers.{malformed, too_large}
use Rattle.http_wire.specs.Bodies.{Moves}
use Rattle.http_wire.specs.Fields.{fields_of, Shows}
use Rattle.http_wire.specs.BodyAnswers.{first_state}
use Rattle.http_wire.specs.Framing.{framing_by}
use Rattle.http_wire.specs.Messages.{Message, is_last, Limits, behind_first, ReadsMessage, Ending, is_complete, is_broken_off, is_no_message, has_large_head, has_long_body}

-- where the reader of the body behind a head begins
abbrev pub body_behind : Head → BodyState
body_behind head = first_state (framing_by head.minor (fields_of head))

-- calls of `read_body` moved a reader on, and gave these bytes in all
pub data Decodes : BodyState → List ℕ → List ℕ → BodyState → List ℕ → Type 0 where
  decodes_none : (old : BodyState) (bytes given : List ℕ) (new : BodyState) (rest : List ℕ)
      → old ≡ new → bytes ≡ rest → given ≡ [] → Decodes old bytes given new rest
  decodes_more : (old : BodyState) (bytes given : List ℕ) (new : BodyState) (rest : List ℕ) (last : BodyState)
      (behind before more : List ℕ)
      → Decodes old bytes before last behind → Moves last behind more new rest → given ≡ before ++ more
      → Decodes old bytes given new rest

-- a message has the head that was read, and this body
abbrev pub IsRead : Head → List ℕ → Message → Type 0
IsRead head body m = Shows head m.head × (m.body ≡ body)

-- messages that were read, none of which ends the connection
abbrev pub ReadsMessages : Limits → List ℕ → List Message → List ℕ → Type 0
ReadsMessages limits bytes [] rest = rest ≡ bytes
ReadsMessages limits bytes (m ∷ messages) rest =
    (behind : List ℕ) × ReadsMessage (limits 0 m.head) bytes m behind × (is_last m ≡ false)
    × ReadsMessages (behind_first limits) behind messages rest

-- the limits of the requests behind so many
abbrev pub behind_all : ℕ → Limits → Limits
behind_all count limits number = limits (count + number)

-- how the messages end where no head was read
abbrev pub HeadEnds : Heading → Ending → Type 0
HeadEnds headings.End ending = ending ≡ is_complete
HeadEnds headings.Cut ending = ending ≡ is_broken_off
HeadEnds (headings.Bad number) ending =
    ((number ≡ malformed) × (ending ≡ is_no_message)) ⊎ ((number ≡ too_large) × (ending ≡ has_large_head))
HeadEnds answer ending = ⊥

-- where a body was not read whole
abbrev pub StepEnds : BodyStep → Ending → Type 0
StepEnds steps.Cut ending = ending ≡ is_broken_off
StepEnds steps.Bad ending = ending ≡ is_no_message
StepEnds step ending = ⊥

-- and where it was not staged whole
abbrev pub TakingEnds : BodyTaken → Ending → Type 0
TakingEnds answers.Cut ending = ending ≡ is_broken_off
TakingEnds answers.Bad ending = ending ≡ is_no_message
TakingEnds answers.TooLong ending = ending ≡ has_long_body
TakingEnds answer ending = ⊥
