-- Whole sessions.
use Rattle.std.specs.Prelude.{◌≡◌, ◌≢◌, ℕ, ◌+◌, ◌<◌, ◌≤◌, ◌^◌, false, IsTrue, List, map, flat_map, Option, ⊤}
use Rattle.std.specs.List.{AllByRecursion}
use Rattle.std.specs.Io.KnownBytes.{Appends}
use Rattle.reg_names.specs.Cause.{Rose, HasCause}
use Rattle.depot_api.specs.Ids.{Words}
use Rattle.http_wire.specs.Flow.{OnStream}
use Rattle.reg_entries.specs.declared.trouble.Trouble.TheVariants as troubles
use Rattle.reg_world.specs.Worlds.{Data}
use Rattle.reg_world.specs.Moves.{failed}
use Rattle.reg_session.specs.declared.ended.Ended.{Ended}
use Rattle.reg_session.specs.declared.ended.Ended.TheVariants as ends
use Rattle.reg_session.specs.Chains.{Chain, Own, BringsAll}
use Rattle.reg_session.specs.Requests.{Reads}
use Rattle.reg_session.specs.Turns.{Turn, IsTurn, closes, talk}
use Rattle.reg_session.specs.Works.{Work, holds_of, IsWork, Took, EndsWith, EndsOn, LeavesNothing, Wrote}

-- the world, the words to come of which ids are made, the bytes to come, what the source has left of them, and the
-- bytes written, at one moment of a session
pub record At : Type 0 where
  pub world : Data
  pub words : Words
  pub bytes : Option (List ℕ)
  pub left : Option (List ℕ)
  pub written : Option (List ℕ)

abbrev pub here : Data → Words → Option (List ℕ) → Option (List ℕ) → Option (List ℕ) → At
here world words bytes left written =
    record { world = world; words = words; bytes = bytes; left = left; written = written }

-- a request that was served, behind which the session goes on
abbrev pub IsServed : Turn → Type 0
IsServed t = IsTurn t × (closes t ≡ false)

-- these requests were served, one after the other
pub record Serves (between : Data → Data → Type 0) (o : Own) (old new : At) (turns : List Turn) : Type 0 where
  -- each by its own holds
  pub each : AllByRecursion IsServed turns
  -- which lead from one world to the other
  pub holds : Chain between old.world (flat_map (λ t. t.holds) turns) new.world
  -- and to which the session brought its number, the moments and the ids
  pub brings : BringsAll o old.words (flat_map (λ t. t.holds) turns) new.words
  -- their spellings were read
  pub read : OnStream old.bytes new.bytes (Reads (map (λ t. t.request) turns))
  -- and their replies were written
  pub wrote : Appends old.written new.written (flat_map talk turns)

-- the session ended with this work; that the sink failed excuses a reply for want of memory that was not written whole
pub record EndsBy {B : Type 0} (between : Data → Data → Type 0) (o : Own) (failed : Type 0) (old new : At)
    (ended : Ended B) (work : Work) : Type 0 where
  pub done : IsWork work
  pub ends : EndsWith ended work
  pub holds : Chain between old.world (holds_of work) new.world
  pub brings : BringsAll o old.words (holds_of work) new.words
  pub read : OnStream old.bytes new.bytes (λ bytes rest. Took work bytes rest × EndsOn ended work bytes)
  pub at_end : LeavesNothing ended work new.left
  pub wrote : Wrote failed ended old.written new.written work

-- a whole session, from a world and what its source has left: requests that were served, and the one in work at its end
pub record Session {B : Type 0} (between : Data → Data → Type 0) (o : Own) (failed : Type 0) (old new : At)
    (ended : Ended B) : Type 0 where
  pub turns : List Turn
  pub work : Work
  pub mid : At
  pub rest : Option (List ℕ)
  pub serves : Serves between o old mid turns
  pub ends : EndsBy between o failed mid (record new { bytes = rest }) ended work

-- ---- causes

-- a blob that failed has had a fault
abbrev pub IfBlobFault : {B : Type 0} → (B → ℕ) → Ended B → Type 0
IfBlobFault faults (ends.BlobFault blob) = 0 < faults blob
IfBlobFault faults ended = ⊤

-- a count of bytes that were given rose by 2^50, as far as it counts
abbrev pub GaveMany : ℕ → ℕ → Type 0
GaveMany before now = now < 2 ^ 62 → before + 2 ^ 50 ≤ now

-- faults are told only where the counts rose, and that an input is too long only of one that is
pub record Causes {B : Type 0} (source_before source_now sink_before sink_now given given_now : ℕ) (faults : B → ℕ)
    (ended : Ended B) : Type 0 where
  pub source : HasCause source_before source_now (ended ≡ ends.SourceFault)
  pub sink : HasCause sink_before sink_now (ended ≡ ends.SinkFault)
  pub blob : IfBlobFault faults ended
  pub long : ended ≡ ends.Long → GaveMany given given_now

-- ---- sessions that follow from their input

-- how it ended stands in the input: no fault ended it, no want of memory, and no length
abbrev pub EndsByInput : {B : Type 0} → Ended B → Type 0
EndsByInput ends.Done = ⊤
EndsByInput (ends.Refused n) = ⊤
EndsByInput ends.Cut = ⊤
EndsByInput ended = ⊥

-- so it did, while nobody else changed the world, whose depot tells what it holds and did not fail, and
-- memory was not wanting in a hold for the request in work
pub record FollowsInput {B : Type 0} (o : Own) (old new : At) (ended : Ended B) : Type 0 where
  pub sink_before : ℕ
  pub sink_now : ℕ
  pub session : Session (λ before now. now ≡ before) o (Rose sink_before sink_now) old new ended
  pub by_input : EndsByInput ended
  pub tells : IsTrue old.world.held.tells
  pub sound : ¬ (Rose old.world.faults new.world.faults)
  pub memory : AllByRecursion (λ h. h.seen ≢ failed troubles.NoMemory) (holds_of session.work)
