-- What a run did.
use Rattle.std.specs.Prelude.{◌≡◌, ℕ, List}
use Rattle.reg_names.specs.Cause.{Rose, HasCause}
use Rattle.reg_world.specs.Worlds.{Data}
use Rattle.reg_session.specs.declared.ended.Ended.{Ended}
use Rattle.reg_session.specs.declared.ended.Ended.TheVariants as ends
use Rattle.reg_session.specs.Chains.{own}
use Rattle.reg_session.specs.Sending.{Tries}
use Rattle.reg_session.specs.Sessions.{here, Session, Causes}
use Rattle.reg_run.specs.Devices.{Seen, world_of, Depots, Drawn, Read, Written}
use Rattle.reg_run.specs.Statuses.{code, status_of}

-- nobody but the session changes its world
abbrev pub Alone : Data → Data → Type 0
Alone old new = new ≡ old

-- the depot comes back as the session left it; a blob that failed is handed back to it, as one fault of it
abbrev pub HandsBack : {B : Type 0} → Ended B → Seen → Seen → Type 0
HandsBack (ends.BlobFault blob) left back = (back.held ≡ left.held) × Rose left.faults back.faults
HandsBack ended left back = back ≡ left

-- a depot as a world has it
abbrev pub depot_in : Data → Seen
depot_in world = record { held = world.held; faults = world.faults }

-- a run of `once` is a session of the world that the depot makes, and its status tells how this ended
pub record Once {B : Type 0} (faults : B → ℕ) (depot : Depots) (drawn : Drawn) (input : Read) (out : Written)
    (exit : ℕ) : Type 0 where
  pub ended : Ended B
  pub left : Data
  pub session : Session Alone (own 0 drawn.reading) (Rose out.faults out.faults_after)
      (here (world_of depot.before) drawn.words input.left input.left out.taken)
      (here left drawn.words_after input.left_after input.left_after out.taken_after) ended
  pub causes : Causes input.faults input.faults_after out.faults out.faults_after input.given input.given_after
      faults ended
  pub depot_back : HandsBack ended (depot_in left) depot.after
  pub status : exit ≡ code (status_of ended)

-- all of a line was written, or a front of it, where the sink's count rose, which never falls
pub record Writes (out : Written) (line : List ℕ) : Type 0 where
  pub took : Tries (Rose out.faults out.faults_after) out.taken out.taken_after line
  pub later : HasCause out.faults out.faults_after ⊥
