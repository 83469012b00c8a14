-- Bodies that are dropped, by what the readers of bodies answer.
use Rattle.std.proofs.Common.{ℕ, ◌+◌, ◌-◌, ◌≤◌, List, [], ◌++◌, false, refl, Option, Some, None, arith}
use Rattle.depot_api.specs.Stages.{Staged}
use Rattle.http_wire.specs.declared.body.BodyState.{BodyState}
use Rattle.http_wire.specs.declared.body.BodyTaken.TheVariants as answers
use Rattle.http_wire.specs.Bodies.{Moves, Outcome, Stops, ends_before, is_cut_short, is_malformed, due}
use Rattle.http_wire.specs.Flow.{OnStream}
use Rattle.http_wire.specs.Filling.{within, is_too_long, TakesBody, IsTakingEnd, KeepsLimit}
use Rattle.http_wire.specs.Reading.{Decodes, decodes_none, decodes_more}
use Rattle.http_wire.proofs.FillingLaws.{takes_end, takes_too_much}
use Rattle.http_wire.proofs.JoiningLaws.{decoded_runs}
use Rattle.http_wire.specs.Messages.{ReadsBody}
use Rattle.reg_session.specs.Bodies.{HasBodyThat}
use Rattle.reg_session.specs.Requests.{ReadsFront}

-- ---- without a limit

-- calls of the reader moved it on, and gave something
abbrev pub DecodesSome : BodyState → List ℕ → BodyState → List ℕ → Type 0
DecodesSome old bytes new rest = (given : List ℕ) × Decodes old bytes given new rest

pub decodes_nothing : (state : BodyState) (bytes : List ℕ) → DecodesSome state bytes state bytes
decodes_nothing state bytes = ([], decodes_none state bytes [] state bytes refl refl refl)

pub starts : (state : BodyState) (stream : Option (List ℕ)) → OnStream stream stream (λ old new. DecodesSome state old state new)
starts state None = tt
starts state (Some bytes) = decodes_nothing state bytes

pub decodes_on : (old mid new : BodyState) (bytes behind rest more : List ℕ) → DecodesSome old bytes mid behind → Moves mid behind more new rest → DecodesSome old bytes new rest
decodes_on old mid new bytes behind rest more (before, decodes) moves =
    (before ++ more, decodes_more old bytes (before ++ more) new rest mid behind before more decodes moves refl)

pub all_decoded : (old new : BodyState) (bytes rest : List ℕ) (outcome : Outcome) → DecodesSome old bytes new rest → Stops new rest [] outcome → HasBodyThat None old bytes (within outcome)
all_decoded old new bytes rest outcome (given, decodes) stop = (given, (outcome, decoded_runs old bytes given new rest outcome decodes stop, refl))

pub cut_decoded : (old new : BodyState) (bytes rest : List ℕ) → DecodesSome old bytes new rest → Stops new rest [] is_cut_short
    → (begin : List ℕ) × ReadsFront None old bytes begin rest × ReadsBody None old bytes begin (within is_cut_short)
cut_decoded old new bytes rest (given, decodes) stop =
    (given, (new, decodes), (is_cut_short, decoded_runs old bytes given new rest is_cut_short decodes stop, refl))

pub front_decoded : (old new : BodyState) (bytes rest : List ℕ) → DecodesSome old bytes new rest → (begin : List ℕ) × ReadsFront None old bytes begin rest
front_decoded old new bytes rest (given, decodes) = (given, (new, decodes))

-- ---- up to a limit

-- what a stage that keeps nothing tells
abbrev pub sieved : ℕ → Staged
sieved count = record { path = []; tells = false; count = count; bytes = [] }

module _ (most : ℕ) (first last : BodyState) (old new : List ℕ) (before now : Staged) where
  pub all_taken : (n : ℕ) → TakesBody (answers.Whole n) most first old last new before now → IsTakingEnd (answers.Whole n) last new
      → KeepsLimit (answers.Whole n) most (now.count - before.count) (due last) → HasBodyThat (Some most) first old (within (ends_before new))
  all_taken n (given, takes, (gains, long)) ended few = (given, takes_end most first old given last new (ends_before new) takes (omega (arith, few, gains.0)) ended)

  pub cut_taken : TakesBody answers.Cut most first old last new before now → IsTakingEnd answers.Cut last new
      → KeepsLimit answers.Cut most (now.count - before.count) (due last)
      → (begin : List ℕ) × ReadsFront (Some most) first old begin new × ReadsBody (Some most) first old begin (within is_cut_short)
  cut_taken (given, takes, gains) ended few = (given, (last, takes), takes_end most first old given last new is_cut_short takes (omega (arith, few, gains.0)) ended)

  pub bad_taken : TakesBody answers.Bad most first old last new before now → IsTakingEnd answers.Bad last new
      → KeepsLimit answers.Bad most (now.count - before.count) (due last) → HasBodyThat (Some most) first old (within is_malformed)
  bad_taken (given, takes, gains) ended few = (given, takes_end most first old given last new is_malformed takes (omega (arith, few, gains.0)) ended)

  pub long_taken : TakesBody answers.TooLong most first old last new before now → now.count ≤ before.count + most
      → KeepsLimit answers.TooLong most (now.count - before.count) (due last) → HasBodyThat (Some most) first old is_too_long
  long_taken (given, takes, gains) kept many = (given, takes_too_much most first old given last new takes (omega (arith, kept, many, gains.0)))
