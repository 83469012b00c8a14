use Rattle.std.proofs.Common.{ap, sym, subst, arith, Err}
use Rattle.http_wire.specs.declared.body.BodyStep.{BodyStep}
use Rattle.http_wire.specs.Bodies.{Moves}
use Rattle.http_wire.specs.BodyAnswers.{given, IsStepEnd}
use Rattle.http_wire.specs.Flow.{stream, OnStream}
use Rattle.http_wire.proofs.MovingLaws.{moved_none, ended_none, hand_read, hand_given}
use Rattle.http_wire.proofs.reading_body.read_body.Goals as goal

pub returns-in-Ok-eq0-clause-at_hand : goal.returns-in-Ok-eq0-clause-at_hand
returns-in-Ok-eq0-clause-at_hand g c = hand_read c.args.source.now c.reach_data.new.source c.args.body.now.state c.reach_data.new.body.state c.args.feed.now.pending c.reach_data.new.feed.pending c.reach_data.ensures.at_hand

pub returns-in-Err-clause-at_hand : goal.returns-in-Err-clause-at_hand
returns-in-Err-clause-at_hand g c = hand_read c.args.source.now c.reach_data.new.source c.args.body.now.state c.reach_data.new.body.state c.args.feed.now.pending c.reach_data.new.feed.pending c.reach_data.ensures.at_hand

pub returns-in-Ok-read_data-clause-at_hand : goal.returns-in-Ok-read_data-clause-at_hand
returns-in-Ok-read_data-clause-at_hand g c =
    let r = c.reach_data.new in
    hand_given c.args.source.now r.source c.read_data.new.source c.args.body.now.state r.body.state c.args.feed.now.pending r.feed.pending
    (grind (arith, c.in-Ok.left-test, c.in-Ok.ensures.left)) c.reach_data.ensures.at_hand c.read_data.ensures.at_hand

pub returns-in-Err-read_data-clause-at_hand : goal.returns-in-Err-read_data-clause-at_hand
returns-in-Err-read_data-clause-at_hand g c =
    let r = c.reach_data.new in
    hand_given c.args.source.now r.source c.read_data.new.source c.args.body.now.state r.body.state c.args.feed.now.pending r.feed.pending
    (grind (arith, c.in-Ok.left-test, c.in-Ok.ensures.left)) c.reach_data.ensures.at_hand c.read_data.ensures.at_hand

pub returns-in-Err-read_data-clause-moved : goal.returns-in-Err-read_data-clause-moved
returns-in-Err-read_data-clause-moved g c =
    let S = g.S.Source.left in
    let first = c.args.body.now.state in
    let now = c.reach_data.new.body.state in
    let step = c.read_data in
    let a = stream c.args.feed.now (S c.args.source.now) in
    let b = stream c.reach_data.new.feed (S c.reach_data.new.source) in
    let d = stream step.new.feed (S step.new.source) in
    subst (λ (s : BodyStep). OnStream a d (λ old new. Moves first old (given s step.new.into) now new)) (sym c.of.ensures)
    (moved_none first now a b d c.reach_data.ensures.moved c.in-Err-read_data.stop step.new.into step.new.into c.in-Err-read_data.ensures.bytes)

pub returns-in-Err-read_data-clause-ended : goal.returns-in-Err-read_data-clause-ended
returns-in-Err-read_data-clause-ended g c =
    let S = g.S.Source.left in
    let first = c.args.body.now.state in
    let now = c.reach_data.new.body.state in
    let step = c.read_data in
    let a = stream c.args.feed.now (S c.args.source.now) in
    let b = stream c.reach_data.new.feed (S c.reach_data.new.source) in
    let d = stream step.new.feed (S step.new.source) in
    subst (λ (s : BodyStep). OnStream a d (λ old new. IsStepEnd s now new)) (sym c.of.ensures)
    (ended_none first now a b d c.reach_data.ensures.moved c.in-Err-read_data.stop step.new.into (grind (arith, c.in-Ok.left-test, c.in-Ok.ensures.left))
    (λ same. c.in-Err-read_data.ensures.sound (ap Err same)) c.in-Err-read_data.ensures.bytes)
