-- Bodies of at most so many bytes, which are put into a stage.
use Rattle.std.specs.Prelude.{◌≡◌, ℕ, ◌+◌, ◌-◌, ◌<◌, ◌≤◌, IsTrue, List, [], ◌++◌, length, take, Option, Some, None, ⊤}
use Rattle.depot_api.specs.Stages.{Staged}
use Rattle.http_wire.specs.declared.body.BodyState.{BodyState}
use Rattle.http_wire.specs.declared.body.BodyState.TheVariants as states
use Rattle.http_wire.specs.declared.body.BodyTaken.{BodyTaken}
use Rattle.http_wire.specs.declared.body.BodyTaken.TheVariants as answers
use Rattle.http_wire.specs.Bodies.{due, less, Outcome, ends_before, is_cut_short, is_malformed, Goes, Stops, EndsIf}

-- how a body ends of which so many bytes may come: as any does, or it is too long
pub data Filling : Type 0 where
  within : Outcome → Filling
  is_too_long : Filling

-- what a reader makes of the bytes to come, if `most` decoded bytes may come: the body is too long where the
-- Content-Length, or the sum of the chunks, passes that, and its decoded bytes end there
pub data Fills : ℕ → BodyState → List ℕ → List ℕ → Filling → Type 0 where
  passes : (most : ℕ) (state : BodyState) (bytes decoded : List ℕ) (filling : Filling) → most < due state
      → decoded ≡ [] → filling ≡ is_too_long
      → Fills most state bytes decoded filling
  stops_within : (most : ℕ) (state : BodyState) (bytes decoded : List ℕ) (filling : Filling) (outcome : Outcome)
      → due state ≤ most
      → Stops state bytes decoded outcome → filling ≡ within outcome → Fills most state bytes decoded filling
  goes_within : (most : ℕ) (state : BodyState) (bytes decoded : List ℕ) (filling : Filling) (next : BodyState)
      (first rest more : List ℕ) → due state ≤ most
      → Goes state bytes next first rest → decoded ≡ first ++ more → Fills (most - length first) next rest more filling
      → Fills most state bytes decoded filling

-- the reader moved on over some bytes and gave those decoded bytes, and never began data that would pass `most` of them
pub data FillsOn : ℕ → BodyState → List ℕ → List ℕ → BodyState → List ℕ → Type 0 where
  takes_none : (most : ℕ) (old : BodyState) (bytes given : List ℕ) (new : BodyState) (rest : List ℕ) → old ≡ new
      → bytes ≡ rest → given ≡ [] → FillsOn most old bytes given new rest
  takes_piece : (most : ℕ) (old : BodyState) (bytes given : List ℕ) (new : BodyState) (rest : List ℕ)
      (last : BodyState) (behind : List ℕ)
      → FillsOn most old bytes given last behind → Goes last behind new [] rest → FillsOn most old bytes given new rest
  takes_data : (most : ℕ) (old : BodyState) (bytes given : List ℕ) (new : BodyState) (rest : List ℕ) (last : BodyState)
      (behind before more : List ℕ)
      → FillsOn most old bytes before last behind → due last ≤ most - length before → length more ≤ due last
      → behind ≡ more ++ rest → new ≡ less last (length more)
      → given ≡ before ++ more → FillsOn most old bytes given new rest

-- these bytes were put behind the staged ones
abbrev pub Gains : Staged → Staged → List ℕ → Type 0
Gains before now bytes =
    (now.count ≡ before.count + length bytes) × (IsTrue before.tells → now.bytes ≡ before.bytes ++ bytes)

-- these, and some of the next ones
abbrev pub GainsSome : Staged → Staged → List ℕ → ℕ → List ℕ → Type 0
GainsSome before now bytes most next =
    (before.count + length bytes ≤ now.count)
    × (now.count ≤ before.count + length bytes + most)
    × (IsTrue before.tells → (some : ℕ) × (some ≤ most) × (some ≤ length next)
    × (now.bytes ≡ before.bytes ++ (bytes ++ take some next)))

-- a stage is that of its path, and tells as it did; where it tells its bytes, they are those that it held, and more
-- behind them
pub record Extends (before now : Staged) : Type 0 where
  pub path : now.path ≡ before.path
  pub tells : now.tells ≡ before.tells
  pub bytes : IsTrue before.tells → (more : List ℕ) × (now.bytes ≡ before.bytes ++ more)

-- ---- what an answer says, of a call before which a reader stood in `first` and behind which it stands in `last`

-- the stage gained the bytes that the reader gave; where the stage failed, also a front of the data that are due
abbrev pub GainsGiven : BodyTaken → Staged → Staged → List ℕ → ℕ → List ℕ → Type 0
GainsGiven (answers.Whole n) before now given left rest = Gains before now given × (n ≡ length given)
GainsGiven answers.StageFault before now given left rest = GainsSome before now given left rest
GainsGiven answer before now given left rest = Gains before now given

-- the reader moved on, and the stage has what it gave
abbrev pub TakesBody : BodyTaken → ℕ → BodyState → List ℕ → BodyState → List ℕ → Staged → Staged → Type 0
TakesBody answer most first old last new before now =
    (given : List ℕ) × FillsOn most first old given last new × GainsGiven answer before now given (due last) new

-- how the body ended, where the answer says that, and the bytes behind it
abbrev pub taking_outcome : BodyTaken → List ℕ → Option Outcome
taking_outcome (answers.Whole n) rest = Some (ends_before rest)
taking_outcome answers.Cut rest = Some is_cut_short
taking_outcome answers.Bad rest = Some is_malformed
taking_outcome answer rest = None

-- then no step is left: the next call says the same
abbrev pub IsTakingEnd : BodyTaken → BodyState → List ℕ → Type 0
IsTakingEnd answer last rest = EndsIf (taking_outcome answer rest) last rest

-- after so many decoded bytes: where the body is too long those that are due would pass the limit, and at the other
-- answers they would not. A stage fails only where data are due, and it may hold some of them
abbrev pub KeepsLimit : BodyTaken → ℕ → ℕ → ℕ → Type 0
KeepsLimit answers.TooLong most count left = most < count + left
KeepsLimit answers.StageFault most count left = (0 < left) × (left ≤ most)
KeepsLimit answers.NoMemory most count left = (0 < left) × (count + left ≤ most)
KeepsLimit answer most count left = count + left ≤ most

-- of a body of which n bytes are due by its Content-Length
abbrev pub AnswersLength : BodyTaken → ℕ → ℕ → Type 0
AnswersLength (answers.Whole count) n most = (count ≡ n) × (n ≤ most)
AnswersLength answers.TooLong n most = most < n
AnswersLength answers.Bad n most = ⊥
AnswersLength answer n most = (0 < n) × (n ≤ most)

-- what the state in which the reader stood tells of the answer, whatever the source gives
abbrev pub CanAnswer : BodyState → ℕ → BodyTaken → Type 0
CanAnswer (states.Fixed n) most answer = AnswersLength answer n most
CanAnswer (states.Data n) most answer = most < n → answer ≡ answers.TooLong
CanAnswer (states.Before piece) most answer = ⊤
CanAnswer states.Done most answer = answer ≡ answers.Whole 0
CanAnswer states.Refused most answer = answer ≡ answers.Bad

-- bytes that do not say yet how the body ends: more have to come
abbrev pub IsBodyOpen : ℕ → BodyState → List ℕ → Type 0
IsBodyOpen most state bytes = (decoded : List ℕ) × Fills most state bytes decoded (within is_cut_short)

-- P of the number of bytes of a whole body
abbrev pub IfWhole : BodyTaken → (ℕ → Type 0) → Type 0
IfWhole (answers.Whole n) P = P n
IfWhole answer P = ⊤
