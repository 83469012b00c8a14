-- The proof's own: no public clause cites what stands here.
-- How a reader of a body comes to the next data.
use Rattle.std.specs.Prelude.{◌≡◌, ℕ, ◌≤◌, ◌<◌, ◌⊎◌, List, [], ◌++◌, take, length, Result, Ok, Err, IfOk, ⊤}
use Rattle.http_wire.specs.declared.body.BodyState.{BodyState}
use Rattle.http_wire.specs.declared.body.BodyState.TheVariants as states
use Rattle.http_wire.specs.declared.body.BodyStep.{BodyStep}
use Rattle.http_wire.specs.declared.body.BodyStep.TheVariants as steps
use Rattle.http_wire.specs.declared.body.BodyTaken.{BodyTaken}
use Rattle.http_wire.specs.declared.body.BodyTaken.TheVariants as answers
use Rattle.http_wire.specs.declared.body.Piece.{Piece}
use Rattle.http_wire.specs.declared.body.Piece.TheVariants as pieces
use Rattle.http_wire.specs.declared.stop.Stop.{Stop}
use Rattle.http_wire.specs.declared.stop.Stop.TheVariants as stopped
use Rattle.http_wire.specs.Bodies.{Skips, Stops, ends_before, IsCutAt}
use Rattle.http_wire.specs.BodyAnswers.{IsStepEnd}

-- the answers of the public calls
abbrev pub step_of : Stop → BodyStep
step_of stopped.Ended = steps.Cut
step_of stopped.Malformed = steps.Bad
step_of stopped.SourceFault = steps.SourceFault
step_of stopped.Long = steps.Long

abbrev pub taking_of : Stop → BodyTaken
taking_of stopped.Ended = answers.Cut
taking_of stopped.Malformed = answers.Bad
taking_of stopped.SourceFault = answers.SourceFault
taking_of stopped.Long = answers.Long

-- what a reader can reach from where it stood, whatever the source is, and where it stands then
abbrev pub CanReach : BodyState → Result ℕ Stop → BodyState → Type 0
CanReach (states.Fixed n) what next =
    (what ≡ Ok n) × (((next ≡ states.Fixed n) × (0 < n)) ⊎ ((n ≡ 0) × (next ≡ states.Done)))
CanReach (states.Data n) what next = 0 < n → (what ≡ Ok n) × (next ≡ states.Data n)
CanReach (states.Before pieces.Trailer) what next = IfOk what (λ left. left ≡ 0)
CanReach (states.Before piece) what next = ⊤
CanReach states.Done what next = (what ≡ Ok 0) × (next ≡ states.Done)
CanReach states.Refused what next = (what ≡ Err stopped.Malformed) × (next ≡ states.Refused)

-- no step is left, where a reader stopped for what the bytes are
abbrev pub IsStopAt : Stop → BodyState → List ℕ → Type 0
IsStopAt stop state rest = IsStepEnd (step_of stop) state rest

-- the same where it may have reached the end
abbrev pub IsReachEnd : Result ℕ Stop → BodyState → List ℕ → Type 0
IsReachEnd (Ok left) state rest = left ≡ 0 → Stops state rest [] (ends_before rest)
IsReachEnd (Err stop) state rest = IsStopAt stop state rest

-- how many bytes are due where a reader reached data, and none where it stopped
abbrev pub HasDue : Result ℕ Stop → ℕ → Type 0
HasDue (Ok left) count = count ≡ left
HasDue (Err stop) count = count ≡ 0

-- the bytes end before a piece, or inside it, and before any data
abbrev pub EndsInPiece : BodyState → List ℕ → Type 0
EndsInPiece state bytes =
    (piece : Piece) × (behind : List ℕ) × Skips state bytes (states.Before piece) behind × IsCutAt piece behind

-- some bytes were taken off the stream as they are, or the input had ended
abbrev pub GivesData : Result ℕ Stop → List ℕ → List ℕ → List ℕ → Type 0
GivesData (Ok n) buffer old new = (n ≤ length buffer) × (old ≡ take n buffer ++ new)
GivesData (Err stop) buffer old new = (new ≡ old) × (stop ≡ stopped.Ended → old ≡ [])
