-- What a run is told of its devices, as plain data: before it and after it.
use Rattle.std.specs.Prelude.{ℕ, List, Option}
use Rattle.depot_api.specs.Holdings.{Holding}
use Rattle.depot_api.specs.Ids.{Words}
use Rattle.reg_claims.specs.Claims.{no_claims}
use Rattle.reg_world.specs.Worlds.{Data}

-- what a depot holds, and how often it has failed
pub record Seen : Type 0 where
  pub held : Holding
  pub faults : ℕ

abbrev pub seen : {D : Type 0} → (D → Holding) → (D → ℕ) → D → Seen
seen held faults depot = record { held = held depot; faults = faults depot }

-- its world, in which nothing is claimed
abbrev pub world_of : Seen → Data
world_of s = record { held = s.held; faults = s.faults; claims = no_claims }

pub record Depots : Type 0 where
  pub before : Seen
  pub after : Seen

abbrev pub depots : {D : Type 0} → (D → Holding) → (D → ℕ) → D → D → Depots
depots held faults old new = record { before = seen held faults old; after = seen held faults new }

-- what the input had left, where it is told, how many bytes it had given, and how often it had failed
pub record Read : Type 0 where
  pub left : Option (List ℕ)
  pub left_after : Option (List ℕ)
  pub given : ℕ
  pub given_after : ℕ
  pub faults : ℕ
  pub faults_after : ℕ

abbrev pub read_of : {S : Type 0} → (S → Option (List ℕ)) → (S → ℕ) → (S → ℕ) → S → S → Read
read_of left given faults old new =
    record {
      left = left old;
      left_after = left new;
      given = given old;
      given_after = given new;
      faults = faults old;
      faults_after = faults new;
    }

-- what the output had taken, where it is told, and how often it had failed
pub record Written : Type 0 where
  pub taken : Option (List ℕ)
  pub taken_after : Option (List ℕ)
  pub faults : ℕ
  pub faults_after : ℕ

abbrev pub written_of : {O : Type 0} → (O → Option (List ℕ)) → (O → ℕ) → O → O → Written
written_of taken faults old new =
    record { taken = taken old; taken_after = taken new; faults = faults old; faults_after = faults new }

-- what the clock reads, and the words that were to come of which ids are made, where they are told
pub record Drawn : Type 0 where
  pub reading : Option ℕ
  pub words : Words
  pub words_after : Words

abbrev pub drawn_of : {C I : Type 0} → (C → Option ℕ) → (I → Words) → C → I → I → Drawn
drawn_of reading words clock old new = record { reading = reading clock; words = words old; words_after = words new }
