use Rattle.std.proofs.Common.{◌≡◌, ℕ, List, [], true, length, Some, Ok, refl, sym, ap, subst, ◌∙◌}
use Rattle.depot_api.specs.Stages.{Staged}
use Rattle.http_wire.specs.BodyAnswers.{state_of, first_state}
use Rattle.http_wire.specs.Bodies.{ends_before}
use Rattle.http_wire.specs.Filling.{within}
use Rattle.http_wire.specs.Flow.{stream, OnStream}
use Rattle.http_wire.specs.Messages.{ReadsBody}
use Rattle.http_wire.specs.declared.body.BodyState.{BodyState}
use Rattle.http_wire.proofs.StreamLaws.{on_both, on_same}
use Rattle.reg_session.specs.declared.bodies.Dropped.{Dropped}
use Rattle.reg_session.specs.declared.bodies.Dropped.TheVariants as dropped
use Rattle.reg_session.specs.InnerBodies.{DropsFront}
use Rattle.reg_session.specs.InnerGathering.{dropped_of, TakesManifest}
use Rattle.reg_session.specs.InnerSteps.{IsBroken}
use Rattle.reg_session.specs.Requests.{parts_in, body_limit, body_state}
use Rattle.reg_session.proofs.GatheringLaws.{dropped_cut, dropped_fault, dropped_long, kept_broken, kept_front, kept_whole, not_kept, not_pushed, same_broken}
use Rattle.reg_session.proofs.gathering.take_manifest.Goals as goal

-- what a stage in memory holds
abbrev kept : List ℕ → Staged
kept bytes = record { path = []; tells = true; count = length bytes; bytes = bytes }

pub returns-in-Ok-clause-body : goal.returns-in-Ok-clause-body
returns-in-Ok-clause-body g c =
    let before = kept c.new.result.items in
    let now = kept c.take_body-taken.new.stage.bytes.items in
    let a = stream c.args.feed.now (g.S.Source.left c.args.source.now) in
    let b = stream c.take_body-taken.new.feed (g.S.Source.left c.take_body-taken.new.source) in
    let at : state_of c.new-body.result ≡ body_state (parts_in c.args.head.now) = c.new-body.ensures ∙ ap first_state c.framing.ensures in
    subst (λ (s : BodyState). OnStream a b (TakesManifest (Ok c.in-Ok.pushed) s)) at
    (on_both a b c.in-Whole.ensures.moved c.in-Whole.ensures.ended (λ x y takes ended.
    subst (λ bs. ReadsBody (Some body_limit) (state_of c.new-body.result) x bs (within (ends_before y))) (sym (c.in-Ok.ensures.bytes ∙ c.from_vec.ensures))
    (kept_whole body_limit (state_of c.new-body.result) (state_of c.take_body-taken.new.body) x y before now c.in-Whole.field-0 c.new.ensures.items refl takes ended c.in-Whole.ensures.too_long)))

pub returns-in-Err-clause-body : goal.returns-in-Err-clause-body
returns-in-Err-clause-body g c =
    let before = kept c.new.result.items in
    let now = kept c.take_body-taken.new.stage.bytes.items in
    let a = stream c.args.feed.now (g.S.Source.left c.args.source.now) in
    let b = stream c.take_body-taken.new.feed (g.S.Source.left c.take_body-taken.new.source) in
    let at : state_of c.new-body.result ≡ body_state (parts_in c.args.head.now) = c.new-body.ensures ∙ ap first_state c.framing.ensures in
    subst (λ (s : BodyState). OnStream a b (TakesManifest (not_pushed dropped.NoMemory) s)) at
    (on_same a b c.in-Whole.ensures.moved (λ x y takes.
    kept_front body_limit (state_of c.new-body.result) (state_of c.take_body-taken.new.body) x y before now c.in-Whole.field-0 takes))

pub returns-in_default-clause-body : goal.returns-in_default-clause-body
returns-in_default-clause-body g c =
    let before = kept c.new.result.items in
    let now = kept c.take_body-taken.new.stage.bytes.items in
    let a = stream c.args.feed.now (g.S.Source.left c.args.source.now) in
    let b = stream c.take_body-taken.new.feed (g.S.Source.left c.take_body-taken.new.source) in
    let at : state_of c.new-body.result ≡ body_state (parts_in c.args.head.now) = c.new-body.ensures ∙ ap first_state c.framing.ensures in
    let all = c.take_body-taken.ensures in
    subst (λ (d : Dropped). OnStream a b (TakesManifest (not_pushed d) (body_state (parts_in c.args.head.now)))) (sym c.dropped.ensures)
    (subst (λ (s : BodyState). OnStream a b (λ old new. (begin : List ℕ) × DropsFront (dropped_of c.take_body-taken.result) (Some body_limit) s begin old new)) at
    (on_both a b all.moved all.ended (λ x y takes ended.
    not_kept body_limit (state_of c.new-body.result) (state_of c.take_body-taken.new.body) x y before now c.take_body-taken.result c.in_default.not-Whole all.limit takes ended all.too_long)))

pub returns-in_default-clause-broken : goal.returns-in_default-clause-broken
returns-in_default-clause-broken g c = subst IsBroken (sym c.dropped.ensures) (kept_broken c.take_body-taken.result c.in_default.not-Whole)

pub returns-in_default-clause-at_end : goal.returns-in_default-clause-at_end
returns-in_default-clause-at_end g c = λ is. c.take_body-taken.ensures.at_end (dropped_cut c.take_body-taken.result (sym c.dropped.ensures ∙ same_broken c.dropped.result _ is))

pub returns-in_default-clause-cause : goal.returns-in_default-clause-cause
returns-in_default-clause-cause g c = record {
  later = c.take_body-taken.ensures.source_cause.later;
  rose = λ is. c.take_body-taken.ensures.source_cause.rose (dropped_fault c.take_body-taken.result (sym c.dropped.ensures ∙ same_broken c.dropped.result _ is));
}

pub returns-in_default-clause-long : goal.returns-in_default-clause-long
returns-in_default-clause-long g c = λ is. c.take_body-taken.ensures.long (dropped_long c.take_body-taken.result (sym c.dropped.ensures ∙ same_broken c.dropped.result _ is))
