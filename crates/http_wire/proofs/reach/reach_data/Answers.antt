use Rattle.std.proofs.Common.{◌∙◌, refl, ap, sym, arith, inl}
use Rattle.http_wire.specs.declared.body.BodyState.TheVariants as states
use Rattle.http_wire.specs.Bodies.{stays}
use Rattle.http_wire.specs.Flow.{stream}
use Rattle.http_wire.proofs.MovingLaws.{skipped_none, skipped_piece, skipped_end, skipped_data, follows_none, follows_end, follows_data, follows_piece, hand_end, hand_data, hand_piece, Counts-trans}
use Rattle.http_wire.proofs.reach.reach_data.Goals as goal

pub loop-body-init : goal.loop-body-init
loop-body-init g c = (
  skipped_none c.args.body.now.state (stream c.args.feed.now (g.S.Source.left c.args.source.now)),
  omega arith,
  omega arith,
  record { as_given = λ _. refl; grows = λ _. omega arith },
  inl (refl, stays c.args.body.now.state c.args.feed.now.pending c.args.body.now.state c.args.feed.now.pending refl refl),
  follows_none c.args.body.now.state,
)

pub loop-body-preserved-in-Fixed-eq0 : goal.loop-body-preserved-in-Fixed-eq0
loop-body-preserved-in-Fixed-eq0 g c =
    let S = g.S.Source.left in
    let w = c.loop-body in
    let at = c.in-Fixed-eq0.is ∙ ap states.Fixed (sym c.in-Fixed-eq0.field-0-is ∙ c.in-Fixed-eq0.field-0-test) in
    let first = c.args.body.now.state in (
      skipped_end first w.body.state (stream c.args.feed.now (S c.args.source.now)) (stream w.feed (S w.source)) w.invariant.0 at,
      w.invariant.1,
      w.invariant.2,
      w.invariant.3,
      hand_end c.args.source.now w.source w.source first w.body.state c.args.feed.now.pending w.feed.pending w.invariant.4 at,
      follows_end first w.body.state w.invariant.5 at,
    )

pub loop-body-preserved-in-Data-eq0 : goal.loop-body-preserved-in-Data-eq0
loop-body-preserved-in-Data-eq0 g c =
    let S = g.S.Source.left in
    let w = c.loop-body in
    let at = c.in-Data-eq0.is ∙ ap states.Data (sym c.in-Data-eq0.field-0-is ∙ c.in-Data-eq0.field-0-test) in
    let first = c.args.body.now.state in (
      skipped_data first w.body.state (stream c.args.feed.now (S c.args.source.now)) (stream w.feed (S w.source)) w.invariant.0 at,
      w.invariant.1,
      w.invariant.2,
      w.invariant.3,
      hand_data c.args.source.now w.source w.source first w.body.state c.args.feed.now.pending w.feed.pending w.invariant.4 at,
      follows_data first w.body.state w.invariant.5 at,
    )

pub loop-body-preserved : goal.loop-body-preserved
loop-body-preserved g c =
    let S = g.S.Source.left in
    let w = c.loop-body in
    let took = c.take_piece in
    let next = c.in_ok-body-in-Before.field-0 in
    let piece = c.in-Before.piece in
    let first = c.args.body.now.state in (
      skipped_piece first w.body.state (stream c.args.feed.now (S c.args.source.now)) (stream w.feed (S w.source)) (stream took.new.feed (S took.new.source)) w.invariant.0
          piece next c.in-Before.is c.in_ok-body-in-Before.ensures.answer,
      omega (arith, w.invariant.1, took.ensures.cause.later),
      omega (arith, w.invariant.2, took.ensures.progress),
      Counts-trans _ _ _ _ _ _ w.invariant.3 took.ensures.counts,
      hand_piece c.args.source.now w.source took.new.source first w.body.state c.args.feed.now.pending w.feed.pending w.invariant.4 piece next took.new.feed.pending
          c.in-Before.is c.in_ok-body-in-Before.ensures.at_hand,
      follows_piece first w.body.state piece next w.invariant.5 c.in-Before.is c.in_ok-body-in-Before.ensures.next,
    )
