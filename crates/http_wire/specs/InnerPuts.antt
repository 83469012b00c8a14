-- The proof's own: no public clause cites what stands here.
-- Data that are put into a stage.
use Rattle.std.specs.Prelude.{◌≡◌, ℕ, ◌+◌, ◌<◌, ◌≤◌, List, [], ◌++◌, length, Result, Ok, Err, ⊤}
use Rattle.http_wire.specs.declared.body.BodyTaken.{BodyTaken}
use Rattle.http_wire.specs.declared.body.BodyTaken.TheVariants as answers
use Rattle.depot_api.specs.Stages.{Staged}
use Rattle.http_wire.specs.Filling.{Gains, GainsSome}

-- why no data were put: the input, the source, the feed or the stage ended there
abbrev pub IsInData : BodyTaken → Type 0
IsInData (answers.Whole n) = ⊥
IsInData answers.TooLong = ⊥
IsInData answers.Bad = ⊥
IsInData answer = ⊤

-- the same of a stage
abbrev pub IsOfStage : BodyTaken → Type 0
IsOfStage answers.StageFault = ⊤
IsOfStage answers.NoMemory = ⊤
IsOfStage answer = ⊥

-- so many bytes were taken off the front
abbrev pub TakesOff : ℕ → List ℕ → List ℕ → Type 0
TakesOff n old new = (bytes : List ℕ) × (old ≡ bytes ++ new) × (length bytes ≡ n)

-- the bytes are as they were, and the stage gained none, or some of those that are due
abbrev pub PutsNone : BodyTaken → ℕ → List ℕ → List ℕ → Staged → Staged → Type 0
PutsNone answers.Cut most old new before now = (new ≡ old) × (old ≡ []) × Gains before now []
PutsNone answers.StageFault most old new before now = (new ≡ old) × GainsSome before now [] most new
PutsNone answer most old new before now = (new ≡ old) × Gains before now []

-- some bytes were taken off the stream and put behind the staged ones, or none
abbrev pub PutsSome : Result ℕ BodyTaken → ℕ → List ℕ → List ℕ → Staged → Staged → Type 0
PutsSome (Ok n) most old new before now =
    (bytes : List ℕ) × (old ≡ bytes ++ new) × (length bytes ≡ n) × Gains before now bytes
PutsSome (Err answer) most old new before now = PutsNone answer most old new before now

-- how many, also where a device does not tell which
abbrev pub PutsUpTo : Result ℕ BodyTaken → ℕ → ℕ → ℕ → Type 0
PutsUpTo (Ok n) most before now = (0 < n) × (n ≤ most) × (now ≡ before + n)
PutsUpTo (Err answers.StageFault) most before now = (before ≤ now) × (now ≤ before + most)
PutsUpTo (Err answer) most before now = now ≡ before
