-- The proof's own: no public clause cites what stands here.
-- What comes of a body that is put into a stage.
use Rattle.std.specs.Prelude.{◌≡◌, ◌⊎◌, ℕ, ◌+◌, ◌≤◌, IsTrue, List, ◌++◌, Some, Result, Ok, Err}
use Rattle.depot_api.specs.Stages.{Staged, CountsStaged}
use Rattle.http_wire.specs.declared.body.BodyState.{BodyState}
use Rattle.http_wire.specs.declared.body.BodyTaken.{BodyTaken}
use Rattle.http_wire.specs.declared.body.BodyTaken.TheVariants as taken
use Rattle.http_wire.specs.Bodies.{ends_before}
use Rattle.http_wire.specs.Filling.{within}
use Rattle.http_wire.specs.Messages.{ReadsBody}
use Rattle.manifest_doc.specs.declared.pushed.Pushed.{Pushed}
use Rattle.reg_session.specs.declared.bodies.Dropped.{Dropped}
use Rattle.reg_session.specs.declared.bodies.Dropped.TheVariants as dropped
use Rattle.reg_session.specs.declared.gathering.Gathered.{Gathered}
use Rattle.reg_session.specs.declared.gathering.Gathered.TheVariants as gathered
use Rattle.reg_session.specs.InnerBodies.{DropsFront}
use Rattle.reg_session.specs.Requests.{ReadsFront, body_limit}
use Rattle.reg_session.specs.Uploads.{room_left, Stages, StagesSome}

-- what came of a body that was taken into a stage
abbrev pub dropped_of : BodyTaken → Dropped
dropped_of (taken.Whole n) = dropped.Whole
dropped_of taken.TooLong = dropped.TooLong
dropped_of taken.Cut = dropped.Cut
dropped_of taken.Bad = dropped.Malformed
dropped_of taken.SourceFault = dropped.SourceFault
dropped_of taken.Long = dropped.Long
dropped_of answer = dropped.NoMemory

abbrev pub gathered_of : BodyTaken → Gathered
gathered_of (taken.Whole n) = gathered.Whole
gathered_of answer = gathered.Broken (dropped_of answer)

-- a stage is that of its path, and has bytes behind those that it had
pub record Grows (before now : Staged) : Type 0 where
  pub path : now.path ≡ before.path
  pub tells : now.tells ≡ before.tells
  pub bytes : IsTrue before.tells → (more : List ℕ) × (now.bytes ≡ before.bytes ++ more)
  pub later : before.count ≤ now.count
  pub room : now.count ≤ before.count + room_left before
  pub counted_before : CountsStaged before
  pub counted : CountsStaged now

-- a body broke off behind a fault of the stage
abbrev pub BreaksOffIn : Dropped → ℕ → BodyState → List ℕ → List ℕ → List ℕ → Type 0
BreaksOffIn dropped.TooLong most state begin old new = (rest : List ℕ) × ReadsFront (Some most) state old begin rest
BreaksOffIn answer most state begin old new = DropsFront answer (Some most) state begin old new

-- a stage gained a body, or some of it; of one that broke off, all that was read, unless the stage had failed
abbrev pub Gathers : Gathered → Type 0 → BodyState → Staged → Staged → List ℕ → List ℕ → Type 0
Gathers gathered.Whole failed state before now old new =
    (body : List ℕ) × ReadsBody (Some (room_left before)) state old body (within (ends_before new))
    × Stages before now body
Gathers gathered.Failed failed state before now old new =
    (body : List ℕ) × ReadsBody (Some (room_left before)) state old body (within (ends_before new))
    × StagesSome before now body
Gathers (gathered.Broken answer) failed state before now old new =
    (begin : List ℕ)
    × ((DropsFront answer (Some (room_left before)) state begin old new × Stages before now begin)
    ⊎ (failed × BreaksOffIn answer (room_left before) state begin old new))

-- a body is pushed, or did not come whole
abbrev pub TakesManifest : Result Pushed Dropped → BodyState → List ℕ → List ℕ → Type 0
TakesManifest (Ok pushed) state old new =
    ReadsBody (Some body_limit) state old pushed.bytes (within (ends_before new))
TakesManifest (Err answer) state old new = (begin : List ℕ) × DropsFront answer (Some body_limit) state begin old new
