-- What an answer on a body says of the stream, before the call and after it.
use Rattle.std.specs.Prelude.{◌≡◌, ℕ, ◌≤◌, ◌<◌, List, take, Option, Some, None, ⊤}
use Rattle.http_wire.specs.declared.head.Framing.{Framing}
use Rattle.http_wire.specs.declared.head.Framing.TheVariants as framings
use Rattle.http_wire.specs.declared.body.BodyReader.{BodyReader}
use Rattle.http_wire.specs.declared.body.BodyState.{BodyState}
use Rattle.http_wire.specs.declared.body.BodyState.TheVariants as states
use Rattle.http_wire.specs.declared.body.BodyStep.{BodyStep}
use Rattle.http_wire.specs.declared.body.BodyStep.TheVariants as steps
use Rattle.http_wire.specs.declared.body.Piece.TheVariants as pieces
use Rattle.http_wire.specs.Bodies.{Outcome, ends_before, is_cut_short, is_malformed, EndsIf}

-- where a reader stands
abbrev pub state_of : BodyReader → BodyState
state_of reader = reader.state

-- where a reader of a body begins
abbrev pub first_state : Framing → BodyState
first_state (framings.Length n) = states.Fixed n
first_state framings.Chunked = states.Before pieces.Line
first_state framings.Bad = states.Refused

-- P of the number of bytes, where a step gave any
abbrev pub IfBytes : BodyStep → (ℕ → Type 0) → Type 0
IfBytes (steps.Bytes n) P = P n
IfBytes step P = ⊤

-- how many decoded bytes a step gave
abbrev pub count_of : BodyStep → ℕ
count_of (steps.Bytes n) = n
count_of step = 0

-- and which, of the buffer that it was given
abbrev pub given : BodyStep → List ℕ → List ℕ
given step buffer = take (count_of step) buffer

-- how the body ends, where a step says that, and the bytes behind it
abbrev pub step_outcome : BodyStep → List ℕ → Option Outcome
step_outcome steps.End rest = Some (ends_before rest)
step_outcome steps.Cut rest = Some is_cut_short
step_outcome steps.Bad rest = Some is_malformed
step_outcome step rest = None

-- then no step is left: the reader stands before what ends the body
abbrev pub IsStepEnd : BodyStep → BodyState → List ℕ → Type 0
IsStepEnd step state rest = EndsIf (step_outcome step rest) state rest

-- what a step can answer inside data of which so many bytes are to come, whatever the source is
abbrev pub IsOfData : ℕ → BodyStep → Type 0
IsOfData left (steps.Bytes n) = n ≤ left
IsOfData left steps.End = ⊥
IsOfData left steps.Bad = ⊥
IsOfData left step = ⊤

-- and behind the last data
abbrev pub GivesNone : BodyStep → Type 0
GivesNone (steps.Bytes n) = ⊥
GivesNone step = ⊤

-- what a step can answer where the reader stood, whatever the source is
abbrev pub CanStep : BodyState → BodyStep → Type 0
CanStep (states.Fixed n) step = (n ≡ 0 → step ≡ steps.End) × (0 < n → IsOfData n step)
CanStep (states.Data n) step = 0 < n → IsOfData n step
CanStep (states.Before pieces.Trailer) step = GivesNone step
CanStep (states.Before piece) step = ⊤
CanStep states.Done step = step ≡ steps.End
CanStep states.Refused step = step ≡ steps.Bad
