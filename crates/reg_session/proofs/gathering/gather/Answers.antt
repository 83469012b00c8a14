use Rattle.std.proofs.Common.{◌≡◌, ℕ, ◌-◌, ◌<◌, List, Some, refl, sym, ap, subst, ◌∙◌, arith, inr}
use Rattle.http_wire.specs.Bodies.{ends_before}
use Rattle.http_wire.specs.BodyAnswers.{state_of, first_state}
use Rattle.http_wire.specs.Filling.{within}
use Rattle.http_wire.specs.Flow.{stream, OnStream}
use Rattle.http_wire.specs.Messages.{ReadsBody}
use Rattle.http_wire.specs.declared.body.BodyState.{BodyState}
use Rattle.http_wire.proofs.StreamLaws.{on_both, on_then}
use Rattle.reg_session.specs.declared.gathering.Gathered.{Gathered}
use Rattle.reg_session.specs.declared.gathering.Gathered.TheVariants as gathered
use Rattle.reg_session.specs.InnerGathering.{BreaksOffIn, gathered_of, Gathers}
use Rattle.reg_session.specs.Requests.{parts_in, body_state, upload_limit}
use Rattle.reg_session.specs.Uploads.{room_left, StagesSome}
use Rattle.reg_session.proofs.ExchangeLaws.{later_than}
use Rattle.reg_session.proofs.GatheringLaws.{broken_behind_fault, broken_cut, broken_fault, broken_long, failed_broken, failed_whole, gathered_all, gathered_broken, grows_within, never_failed, same_dropped, some_faults}
use Rattle.reg_session.proofs.gathering.gather.Goals as goal

pub returns-in-Whole-clause-grows : goal.returns-in-Whole-clause-grows
returns-in-Whole-clause-grows g c =
    let first = c.length-before.ensures in
    let all = c.take_body-taken.ensures in
    grows_within (g.T.Stage.held c.args.stage.now) _ c.length-before.result c.saturating_sub-room.result all.kept all.grows all.limit first.length c.saturating_sub-room.ensures first.bytes c.length.ensures.bytes

pub returns-in-Whole-clause-body : goal.returns-in-Whole-clause-body
returns-in-Whole-clause-body g c =
    let T = g.T.Stage.held in
    let before = T c.args.stage.now in
    let now = T c.take_body-taken.new.stage in
    let all = c.take_body-taken.ensures in
    let room : c.saturating_sub-room.result ≡ room_left before = c.saturating_sub-room.ensures ∙ ap (λ (n : ℕ). upload_limit - n) c.length-before.ensures.length in
    let at : state_of c.new-body.result ≡ body_state (parts_in c.args.head.now) = c.new-body.ensures ∙ ap first_state c.framing.ensures in
    let grows = returns-in-Whole-clause-grows g c in
    let first = c.length-before.ensures.length in
    let last = c.length.ensures.length in
    let a = stream c.args.feed.now (g.S.Source.left c.args.source.now) in
    let b = stream c.take_body-taken.new.feed (g.S.Source.left c.take_body-taken.new.source) in
    let d = stream c.drop_within.new.feed (g.S.Source.left c.drop_within.new.source) in
    let failed = 0 < g.T.Stage.faults c.take_body-taken.new.stage in
    subst (λ (s : BodyState). OnStream a d (Gathers gathered.Failed failed s before now)) at
    (on_then a b d c.in-StageFault.ensures.moved c.in-Whole.ensures.body (λ x y z takes drops.
    subst (λ (m : ℕ). (body : List ℕ) × ReadsBody (Some m) (state_of c.new-body.result) x body (within (ends_before z)) × StagesSome before now body) room
    (failed_whole c.saturating_sub-room.result _ (state_of c.new-body.result) (state_of c.take_body-taken.new.body) x y z before now (omega (arith, first, last)) takes grows drops)))

pub returns-in_default-drop_within-clause-grows : goal.returns-in_default-drop_within-clause-grows
returns-in_default-drop_within-clause-grows g c =
    let first = c.length-before.ensures in
    let all = c.take_body-taken.ensures in
    grows_within (g.T.Stage.held c.args.stage.now) _ c.length-before.result c.saturating_sub-room.result all.kept all.grows all.limit first.length c.saturating_sub-room.ensures first.bytes c.length.ensures.bytes

pub returns-in_default-drop_within-clause-body : goal.returns-in_default-drop_within-clause-body
returns-in_default-drop_within-clause-body g c =
    let T = g.T.Stage.held in
    let before = T c.args.stage.now in
    let now = T c.take_body-taken.new.stage in
    let all = c.take_body-taken.ensures in
    let room : c.saturating_sub-room.result ≡ room_left before = c.saturating_sub-room.ensures ∙ ap (λ (n : ℕ). upload_limit - n) c.length-before.ensures.length in
    let at : state_of c.new-body.result ≡ body_state (parts_in c.args.head.now) = c.new-body.ensures ∙ ap first_state c.framing.ensures in
    let first = c.length-before.ensures.length in
    let last = c.length.ensures.length in
    let a = stream c.args.feed.now (g.S.Source.left c.args.source.now) in
    let b = stream c.take_body-taken.new.feed (g.S.Source.left c.take_body-taken.new.source) in
    let d = stream c.drop_within.new.feed (g.S.Source.left c.drop_within.new.source) in
    let failed = 0 < g.T.Stage.faults c.take_body-taken.new.stage in
    let rose = some_faults (g.T.Stage.faults c.args.stage.now) (g.T.Stage.faults c.take_body-taken.new.stage) (c.in-StageFault.ensures.stage_cause.rose refl) in
    subst (λ (s : BodyState). OnStream a d (Gathers (gathered.Broken c.drop_within.result) failed s before now)) at
    (on_then a b d c.in-StageFault.ensures.moved c.drop_within.ensures.body (λ x y z takes drops.
    let off = subst (λ (m : ℕ). (begin : List ℕ) × BreaksOffIn c.drop_within.result m (state_of c.new-body.result) begin x z) room
    (failed_broken c.saturating_sub-room.result _ (state_of c.new-body.result) (state_of c.take_body-taken.new.body) x y z before now (omega (arith, first, last)) takes c.drop_within.result drops) in
    (off.0, inr (rose, off.1))))

pub returns-in_default-drop_within-clause-broken : goal.returns-in_default-drop_within-clause-broken
returns-in_default-drop_within-clause-broken g c = λ d is. broken_behind_fault c.drop_within.result d c.in_default-drop_within.not-Whole is

pub returns-in_default-drop_within-clause-at_end : goal.returns-in_default-drop_within-clause-at_end
returns-in_default-drop_within-clause-at_end g c = λ is. c.drop_within.ensures.at_end (same_dropped c.drop_within.result _ is)

pub returns-in_default-drop_within-clause-cause : goal.returns-in_default-drop_within-clause-cause
returns-in_default-drop_within-clause-cause g c =
    later_than _ _ _ _ c.take_body-taken.ensures.source_cause.later (record { later = c.drop_within.ensures.cause.later; rose = λ is. c.drop_within.ensures.cause.rose (same_dropped c.drop_within.result _ is) })

pub returns-in_default-drop_within-clause-long : goal.returns-in_default-drop_within-clause-long
returns-in_default-drop_within-clause-long g c = λ is. c.drop_within.ensures.long (same_dropped c.drop_within.result _ is)

pub returns-in_default-clause-grows : goal.returns-in_default-clause-grows
returns-in_default-clause-grows g c =
    let first = c.length-before.ensures in
    let all = c.take_body-taken.ensures in
    grows_within (g.T.Stage.held c.args.stage.now) _ c.length-before.result c.saturating_sub-room.result all.kept all.grows all.limit first.length c.saturating_sub-room.ensures first.bytes c.length.ensures.bytes

pub returns-in_default-clause-body : goal.returns-in_default-clause-body
returns-in_default-clause-body g c =
    let T = g.T.Stage.held in
    let before = T c.args.stage.now in
    let now = T c.take_body-taken.new.stage in
    let all = c.take_body-taken.ensures in
    let room : c.saturating_sub-room.result ≡ room_left before = c.saturating_sub-room.ensures ∙ ap (λ (n : ℕ). upload_limit - n) c.length-before.ensures.length in
    let at : state_of c.new-body.result ≡ body_state (parts_in c.args.head.now) = c.new-body.ensures ∙ ap first_state c.framing.ensures in
    let grows = returns-in_default-clause-grows g c in
    let a = stream c.args.feed.now (g.S.Source.left c.args.source.now) in
    let b = stream c.take_body-taken.new.feed (g.S.Source.left c.take_body-taken.new.source) in
    let failed = 0 < g.T.Stage.faults c.take_body-taken.new.stage in
    subst (λ (r : Gathered). OnStream a b (Gathers r failed (body_state (parts_in c.args.head.now)) before now)) (sym c.of.ensures)
    (subst (λ (s : BodyState). OnStream a b (Gathers (gathered_of c.take_body-taken.result) failed s before now)) at
    (on_both a b all.moved all.ended (λ x y takes ended.
    gathered_all c.take_body-taken.result failed c.saturating_sub-room.result (state_of c.new-body.result) (state_of c.take_body-taken.new.body) x y before now room grows all.limit c.in_default.not-StageFault takes ended all.too_long)))

pub returns-in_default-clause-failed : goal.returns-in_default-clause-failed
returns-in_default-clause-failed g c = λ is. absurd (never_failed c.take_body-taken.result (sym c.of.ensures ∙ is))

pub returns-in_default-clause-broken : goal.returns-in_default-clause-broken
returns-in_default-clause-broken g c = λ d is. gathered_broken c.take_body-taken.result d (sym c.of.ensures ∙ is)

pub returns-in_default-clause-at_end : goal.returns-in_default-clause-at_end
returns-in_default-clause-at_end g c = λ is. c.take_body-taken.ensures.at_end (broken_cut c.take_body-taken.result (sym c.of.ensures ∙ is))

pub returns-in_default-clause-cause : goal.returns-in_default-clause-cause
returns-in_default-clause-cause g c = record {
  later = c.take_body-taken.ensures.source_cause.later;
  rose = λ is. c.take_body-taken.ensures.source_cause.rose (broken_fault c.take_body-taken.result (sym c.of.ensures ∙ is));
}

pub returns-in_default-clause-long : goal.returns-in_default-clause-long
returns-in_default-clause-long g c = λ is. c.take_body-taken.ensures.long (broken_long c.take_body-taken.result (sym c.of.ensures ∙ is))
