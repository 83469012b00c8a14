-- The proof's own: no public clause cites what stands here.
use Rattle.std.specs.Prelude.{◌≡◌, ℕ, List, Option, Some, None, Result, Ok, Err}
use Rattle.depot_api.specs.Changes.{IsLentOf}
use Rattle.depot_api.specs.Holdings.{Holding}
use Rattle.depot_api.specs.Stages.{Staged}
use Rattle.link_paths.specs.Places.{upload_data_path}
use Rattle.reg_claims.specs.Claims.{ClaimList}
use Rattle.reg_claims.specs.Holding.{next_held}
use Rattle.reg_entries.specs.declared.reply.Reply.{Reply}
use Rattle.upload_sessions.specs.declared.taking.Taken.{Taken}
use Rattle.upload_sessions.specs.declared.taking.Taken.TheVariants.{Out, Refused}

-- a session with an id was given
abbrev pub IsOutOf : {S : Type 0} → (S → Staged) → Holding → ClaimList → List ℕ → List ℕ → Taken S → Type 0
IsOutOf staged held claims name id (Out token stage offset) =
    (token ≡ next_held name id claims) × IsLentOf held (upload_data_path name id) (staged stage)
    × (offset ≡ (staged stage).count)
IsOutOf staged held claims name id (Refused reply) = ⊥

-- a refusal, where there is one, and else what was met
abbrev pub unless_refused : List ℕ × ℕ → Option Reply → Result (List ℕ × ℕ) Reply
unless_refused met None = Ok met
unless_refused met (Some reply) = Err reply
