use Rattle.std.proofs.Common.{◌≡◌, ◌≤◌, ◌<◌, ◌-◌, ◌∙◌, refl, subst, sym, arith}
use Rattle.http_wire.specs.declared.body.BodyState.{BodyState}
use Rattle.http_wire.specs.declared.body.BodyTaken.{BodyTaken}
use Rattle.http_wire.specs.Bodies.{due}
use Rattle.http_wire.specs.Filling.{TakesBody, CanAnswer}
use Rattle.http_wire.specs.Flow.{stream, OnStream}
use Rattle.http_wire.proofs.MovingLaws.{Counts-trans}
use Rattle.http_wire.proofs.StagingLaws.{Filled, Leaves, BodyAtHand, filled_none, extends_none, extends_then, reached_on, stopped_long, stopped_whole, stopped_at, put_on, put_none, put_end, leaves_all, leaves_reached, leaves_put, known_whole, known_stop, known_long, known_data, body_hand_none, body_hand_over, body_hand_put, body_hand_end, body_hand_read}
use Rattle.http_wire.proofs.taking.take_body.Goals as goal

pub loop-left-init : goal.loop-left-init
loop-left-init g c =
    let T = g.T.Stage in
    let before = T.held c.args.stage.now in (
      filled_none c.args.most c.args.body.now.state before (stream c.args.feed.now (g.S.Source.left c.args.source.now)),
      omega arith,
      omega arith,
      extends_none before,
      omega arith,
      omega arith,
      record { as_given = λ _. refl; grows = λ _. omega arith },
      body_hand_none c.args.source.now c.args.most c.args.body.now.state c.args.feed.now.pending,
      omega arith,
      leaves_all c.args.most c.args.body.now.state,
    )

pub returns-in-Ok-eq0-clause-moved : goal.returns-in-Ok-eq0-clause-moved
returns-in-Ok-eq0-clause-moved g c =
    let S = g.S.Source.left in
    let T = g.T.Stage in
    let w = c.loop-left in
    let r = c.reach_data.new in
    let a = stream c.args.feed.now (S c.args.source.now) in
    let b = stream w.feed (S w.source) in
    let m = stream r.feed (S r.source) in
    let first = c.args.body.now.state in
    stopped_whole c.args.most w.room first w.body.state r.body.state (T.held c.args.stage.now) (T.held w.stage) a b m w.invariant.0 c.reach_data.ensures.moved (c.args.most - w.room) (omega (arith, w.invariant.1))

pub returns-in-Ok-eq0-clause-known : goal.returns-in-Ok-eq0-clause-known
returns-in-Ok-eq0-clause-known g c =
    let w = c.loop-left in
    let r = c.reach_data.new in
    let first = c.args.body.now.state in
    known_whole c.args.most w.room (c.args.most - w.room) c.in-Ok-eq0.field-0 first w.body.state r.body.state (omega (arith, w.invariant.1))
    (sym c.in-Ok-eq0.field-0-is ∙ c.in-Ok-eq0.field-0-test) w.invariant.9 c.in-Ok-eq0.ensures.known

pub returns-in-Ok-eq0-clause-at_hand : goal.returns-in-Ok-eq0-clause-at_hand
returns-in-Ok-eq0-clause-at_hand g c =
    let w = c.loop-left in
    let r = c.reach_data.new in
    let first = c.args.body.now.state in
    body_hand_read c.args.source.now r.source c.args.most w.room first r.body.state c.args.feed.now.pending r.feed.pending
    (body_hand_over c.args.source.now w.source r.source c.args.most w.room first w.body.state r.body.state c.args.feed.now.pending w.feed.pending r.feed.pending w.invariant.7 c.reach_data.ensures.at_hand)

pub returns-in-Ok-clause-moved : goal.returns-in-Ok-clause-moved
returns-in-Ok-clause-moved g c =
    let S = g.S.Source.left in
    let T = g.T.Stage in
    let w = c.loop-left in
    let r = c.reach_data.new in
    let a = stream c.args.feed.now (S c.args.source.now) in
    let b = stream w.feed (S w.source) in
    let m = stream r.feed (S r.source) in
    let first = c.args.body.now.state in
    stopped_long c.args.most w.room first w.body.state r.body.state (T.held c.args.stage.now) (T.held w.stage) a b m w.invariant.0 c.reach_data.ensures.moved

pub returns-in-Ok-clause-at_hand : goal.returns-in-Ok-clause-at_hand
returns-in-Ok-clause-at_hand g c =
    let w = c.loop-left in
    let r = c.reach_data.new in
    let first = c.args.body.now.state in
    body_hand_read c.args.source.now r.source c.args.most w.room first r.body.state c.args.feed.now.pending r.feed.pending
    (body_hand_over c.args.source.now w.source r.source c.args.most w.room first w.body.state r.body.state c.args.feed.now.pending w.feed.pending r.feed.pending w.invariant.7 c.reach_data.ensures.at_hand)

pub returns-in-Ok-clause-known : goal.returns-in-Ok-clause-known
returns-in-Ok-clause-known g c =
    let w = c.loop-left in
    let r = c.reach_data.new in
    let first = c.args.body.now.state in
    known_long c.args.most w.room first r.body.state (leaves_reached c.args.most w.room first w.body.state r.body.state c.reach_data.result w.invariant.9 c.reach_data.ensures.known) (omega (arith, c.if-left-room.true, c.in-Ok.ensures.left))

pub returns-in-Err-clause-at_hand : goal.returns-in-Err-clause-at_hand
returns-in-Err-clause-at_hand g c =
    let w = c.loop-left in
    let r = c.reach_data.new in
    let first = c.args.body.now.state in
    body_hand_read c.args.source.now r.source c.args.most w.room first r.body.state c.args.feed.now.pending r.feed.pending
    (body_hand_over c.args.source.now w.source r.source c.args.most w.room first w.body.state r.body.state c.args.feed.now.pending w.feed.pending r.feed.pending w.invariant.7 c.reach_data.ensures.at_hand)

pub loop-left-preserved : goal.loop-left-preserved
loop-left-preserved g c =
    let S = g.S.Source.left in
    let T = g.T.Stage in
    let w = c.loop-left in
    let r = c.reach_data.new in
    let a = stream c.args.feed.now (S c.args.source.now) in
    let b = stream w.feed (S w.source) in
    let m = stream r.feed (S r.source) in
    let first = c.args.body.now.state in
    let p = c.put_data.new in
    let d = stream p.feed (S p.source) in
    let left = c.in-Ok.left in
    let reached = reached_on c.args.most w.room first w.body.state r.body.state (T.held c.args.stage.now) (T.held w.stage) a b m w.invariant.0 c.reach_data.ensures.moved in
    let is : due r.body.state ≡ left = c.in-Ok.ensures.left in
    let some : 0 < due r.body.state = grind (arith, c.in-Ok.left-test, is) in
    let fits : due r.body.state ≤ w.room = omega (arith, is, c.if-left-room.false) in
    let n = c.in-Ok-put_data.count in
    let count = c.in-Ok-put_data.ensures.count in
    let few : n ≤ due r.body.state = omega (arith, is, count.1) in
    let on = put_on c.args.most w.room left first r.body.state (T.held c.args.stage.now) (T.held w.stage) (T.held p.stage) w.invariant.3.tells a m d reached n few fits
    c.in-Ok-put_data.ensures.bytes in
    let hand = body_hand_put c.args.source.now r.source p.source c.args.most w.room first r.body.state c.args.feed.now.pending r.feed.pending p.feed.pending
    (body_hand_over c.args.source.now w.source r.source c.args.most w.room first w.body.state r.body.state c.args.feed.now.pending w.feed.pending r.feed.pending w.invariant.7 c.reach_data.ensures.at_hand) fits some n few c.in-Ok-put_data.ensures.at_hand in
    let leaves = leaves_put c.args.most w.room n first r.body.state (leaves_reached c.args.most w.room first w.body.state r.body.state c.reach_data.result w.invariant.9 c.reach_data.ensures.known) few fits in (
      subst (λ (s : BodyState). OnStream a d (Filled c.args.most (w.room - n) first s (T.held c.args.stage.now) (T.held p.stage))) (sym c.pass.ensures) on,
      omega (arith, w.invariant.1),
      omega (arith, w.invariant.2, count.1, count.2, fits, is),
      extends_then (T.held c.args.stage.now) (T.held w.stage) (T.held p.stage) w.invariant.3 c.put_data.ensures.kept,
      omega (arith, w.invariant.4, c.reach_data.ensures.cause.later, c.put_data.ensures.source_cause.later),
      omega (arith, w.invariant.5, c.put_data.ensures.stage_cause.later),
      Counts-trans _ _ _ _ _ _ (Counts-trans _ _ _ _ _ _ w.invariant.6 c.reach_data.ensures.counts) c.put_data.ensures.counts,
      subst (λ (s : BodyState). BodyAtHand c.args.source.now p.source c.args.most (w.room - n) first c.args.feed.now.pending s p.feed.pending) (sym c.pass.ensures) hand,
      omega (arith, w.invariant.8, c.reach_data.ensures.progress, c.put_data.ensures.progress),
      subst (λ (s : BodyState). Leaves c.args.most (w.room - n) first s) (sym c.pass.ensures) leaves,
    )

pub returns-in-Err-put_data-clause-moved : goal.returns-in-Err-put_data-clause-moved
returns-in-Err-put_data-clause-moved g c =
    let S = g.S.Source.left in
    let T = g.T.Stage in
    let w = c.loop-left in
    let r = c.reach_data.new in
    let a = stream c.args.feed.now (S c.args.source.now) in
    let b = stream w.feed (S w.source) in
    let m = stream r.feed (S r.source) in
    let first = c.args.body.now.state in
    let p = c.put_data.new in
    let d = stream p.feed (S p.source) in
    let left = c.in-Ok.left in
    let reached = reached_on c.args.most w.room first w.body.state r.body.state (T.held c.args.stage.now) (T.held w.stage) a b m w.invariant.0 c.reach_data.ensures.moved in
    let is : due r.body.state ≡ left = c.in-Ok.ensures.left in
    put_none c.args.most w.room left first r.body.state (T.held c.args.stage.now) (T.held w.stage) (T.held p.stage) w.invariant.3.tells a m d reached c.in-Err-put_data.answer
    c.in-Err-put_data.ensures.inside is c.in-Err-put_data.ensures.bytes

pub returns-in-Err-put_data-clause-ended : goal.returns-in-Err-put_data-clause-ended
returns-in-Err-put_data-clause-ended g c =
    let S = g.S.Source.left in
    let T = g.T.Stage in
    let w = c.loop-left in
    let r = c.reach_data.new in
    let a = stream c.args.feed.now (S c.args.source.now) in
    let b = stream w.feed (S w.source) in
    let m = stream r.feed (S r.source) in
    let first = c.args.body.now.state in
    let p = c.put_data.new in
    let d = stream p.feed (S p.source) in
    let left = c.in-Ok.left in
    let reached = reached_on c.args.most w.room first w.body.state r.body.state (T.held c.args.stage.now) (T.held w.stage) a b m w.invariant.0 c.reach_data.ensures.moved in
    let is : due r.body.state ≡ left = c.in-Ok.ensures.left in
    let some : 0 < due r.body.state = grind (arith, c.in-Ok.left-test, is) in
    put_end c.args.most w.room left first r.body.state (T.held c.args.stage.now) (T.held w.stage) (T.held p.stage) w.invariant.3.tells a m d reached c.in-Err-put_data.answer
    c.in-Err-put_data.ensures.inside some c.in-Err-put_data.ensures.bytes

pub returns-in-Err-put_data-clause-known : goal.returns-in-Err-put_data-clause-known
returns-in-Err-put_data-clause-known g c =
    let w = c.loop-left in
    let r = c.reach_data.new in
    let first = c.args.body.now.state in
    let left = c.in-Ok.left in
    let is : due r.body.state ≡ left = c.in-Ok.ensures.left in
    let some : 0 < due r.body.state = grind (arith, c.in-Ok.left-test, is) in
    let fits : due r.body.state ≤ w.room = omega (arith, is, c.if-left-room.false) in
    known_data c.args.most w.room first r.body.state c.in-Err-put_data.answer c.in-Err-put_data.ensures.inside (leaves_reached c.args.most w.room first w.body.state r.body.state c.reach_data.result w.invariant.9 c.reach_data.ensures.known) w.invariant.1 some fits

pub returns-in-Err-put_data-clause-at_hand : goal.returns-in-Err-put_data-clause-at_hand
returns-in-Err-put_data-clause-at_hand g c =
    let w = c.loop-left in
    let r = c.reach_data.new in
    let first = c.args.body.now.state in
    let p = c.put_data.new in
    let left = c.in-Ok.left in
    let is : due r.body.state ≡ left = c.in-Ok.ensures.left in
    let some : 0 < due r.body.state = grind (arith, c.in-Ok.left-test, is) in
    let fits : due r.body.state ≤ w.room = omega (arith, is, c.if-left-room.false) in
    body_hand_end c.args.source.now r.source p.source c.args.most w.room first r.body.state c.args.feed.now.pending r.feed.pending p.feed.pending
    (body_hand_over c.args.source.now w.source r.source c.args.most w.room first w.body.state r.body.state c.args.feed.now.pending w.feed.pending r.feed.pending w.invariant.7 c.reach_data.ensures.at_hand) fits some c.put_data.ensures.at_hand

pub returns-in-Err-clause-moved : goal.returns-in-Err-clause-moved
returns-in-Err-clause-moved g c =
    let S = g.S.Source.left in
    let T = g.T.Stage in
    let w = c.loop-left in
    let r = c.reach_data.new in
    let a = stream c.args.feed.now (S c.args.source.now) in
    let b = stream w.feed (S w.source) in
    let m = stream r.feed (S r.source) in
    let first = c.args.body.now.state in
    subst (λ (v : BodyTaken). OnStream a m (λ old new. TakesBody v c.args.most first old r.body.state new (T.held c.args.stage.now) (T.held w.stage))) (sym c.of.ensures)
    (stopped_at c.args.most w.room first w.body.state r.body.state (T.held c.args.stage.now) (T.held w.stage) a b m w.invariant.0 c.reach_data.ensures.moved c.in-Err.stop)

pub returns-in-Err-clause-known : goal.returns-in-Err-clause-known
returns-in-Err-clause-known g c =
    let w = c.loop-left in
    subst (CanAnswer c.args.body.now.state c.args.most) (sym c.of.ensures)
    (known_stop c.args.most w.room c.args.body.now.state w.body.state c.reach_data.new.body.state c.in-Err.stop w.invariant.9 c.in-Err.ensures.known)
