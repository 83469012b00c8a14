use Rattle.std.proofs.Common.{[], take, refl, ◌∙◌, arith}
use Rattle.http_wire.specs.Bodies.{ends_before, is_malformed}
use Rattle.http_wire.specs.BodyAnswers.{state_of}
use Rattle.http_wire.proofs.MovingLaws.{Counts-trans}
use Rattle.http_wire.proofs.StreamLaws.{on_then, on_then_both}
use Rattle.reg_session.proofs.BodyLaws.{starts, decodes_on, all_decoded, cut_decoded, front_decoded}
use Rattle.reg_session.proofs.bodies.drop_all.Goals as goal

pub loop-init : goal.loop-init
loop-init g c = record {
  decodes = starts (state_of c.args.body.now) _;
  long = refl;
  ahead = omega arith;
  later = omega arith;
  counts = record { as_given = λ _. refl; grows = λ _. omega arith };
}

pub loop-preserved : goal.loop-preserved
loop-preserved g c = record {
  decodes = on_then _ _ _ c.loop.invariant.decodes c.in-Bytes.ensures.moved (λ x y z some moves. decodes_on _ (state_of c.loop.body) _ x y z (take c.in-Bytes.field-0 c.read_body.new.into) some moves);
  long = c.read_body.auto.into ∙ c.loop.invariant.long;
  ahead = omega (arith, c.loop.invariant.ahead, c.in-Bytes.ensures.progress);
  later = omega (arith, c.loop.invariant.later, c.in-Bytes.ensures.cause.later);
  counts = Counts-trans _ _ _ _ _ _ c.loop.invariant.counts c.in-Bytes.ensures.counts;
}

pub returns-in-End-clause-body : goal.returns-in-End-clause-body
returns-in-End-clause-body g c = on_then_both _ _ _ c.loop.invariant.decodes c.in-End.ensures.moved c.in-End.ensures.ended
    (λ x y z some moves ended. all_decoded _ (state_of c.read_body.new.body) x z (ends_before z) (decodes_on _ (state_of c.loop.body) _ x y z [] some moves) ended)

pub returns-in-Cut-clause-body : goal.returns-in-Cut-clause-body
returns-in-Cut-clause-body g c = on_then_both _ _ _ c.loop.invariant.decodes c.in-Cut.ensures.moved c.in-Cut.ensures.ended
    (λ x y z some moves ended. cut_decoded _ (state_of c.read_body.new.body) x z (decodes_on _ (state_of c.loop.body) _ x y z [] some moves) ended)

pub returns-in-Bad-clause-body : goal.returns-in-Bad-clause-body
returns-in-Bad-clause-body g c = on_then_both _ _ _ c.loop.invariant.decodes c.in-Bad.ensures.moved c.in-Bad.ensures.ended
    (λ x y z some moves ended. all_decoded _ (state_of c.read_body.new.body) x z (is_malformed) (decodes_on _ (state_of c.loop.body) _ x y z [] some moves) ended)

pub returns-in-SourceFault-clause-body : goal.returns-in-SourceFault-clause-body
returns-in-SourceFault-clause-body g c = on_then _ _ _ c.loop.invariant.decodes c.in-SourceFault.ensures.moved
    (λ x y z some moves. front_decoded _ (state_of c.read_body.new.body) x z (decodes_on _ (state_of c.loop.body) _ x y z [] some moves))

pub returns-in-Long-clause-body : goal.returns-in-Long-clause-body
returns-in-Long-clause-body g c = on_then _ _ _ c.loop.invariant.decodes c.in-Long.ensures.moved
    (λ x y z some moves. front_decoded _ (state_of c.read_body.new.body) x z (decodes_on _ (state_of c.loop.body) _ x y z [] some moves))

pub returns-in-End-clause-progress : goal.returns-in-End-clause-progress
returns-in-End-clause-progress g c = omega (arith, c.loop.invariant.ahead, c.in-End.ensures.progress)

pub returns-in-End-clause-counts : goal.returns-in-End-clause-counts
returns-in-End-clause-counts g c = Counts-trans _ _ _ _ _ _ c.loop.invariant.counts c.in-End.ensures.counts

pub returns-in-Cut-clause-progress : goal.returns-in-Cut-clause-progress
returns-in-Cut-clause-progress g c = omega (arith, c.loop.invariant.ahead, c.in-Cut.ensures.progress)

pub returns-in-Cut-clause-counts : goal.returns-in-Cut-clause-counts
returns-in-Cut-clause-counts g c = Counts-trans _ _ _ _ _ _ c.loop.invariant.counts c.in-Cut.ensures.counts

pub returns-in-Bad-clause-progress : goal.returns-in-Bad-clause-progress
returns-in-Bad-clause-progress g c = omega (arith, c.loop.invariant.ahead, c.in-Bad.ensures.progress)

pub returns-in-Bad-clause-counts : goal.returns-in-Bad-clause-counts
returns-in-Bad-clause-counts g c = Counts-trans _ _ _ _ _ _ c.loop.invariant.counts c.in-Bad.ensures.counts

pub returns-in-SourceFault-clause-progress : goal.returns-in-SourceFault-clause-progress
returns-in-SourceFault-clause-progress g c = omega (arith, c.loop.invariant.ahead, c.in-SourceFault.ensures.progress)

pub returns-in-SourceFault-clause-counts : goal.returns-in-SourceFault-clause-counts
returns-in-SourceFault-clause-counts g c = Counts-trans _ _ _ _ _ _ c.loop.invariant.counts c.in-SourceFault.ensures.counts

pub returns-in-Long-clause-progress : goal.returns-in-Long-clause-progress
returns-in-Long-clause-progress g c = omega (arith, c.loop.invariant.ahead, c.in-Long.ensures.progress)

pub returns-in-Long-clause-counts : goal.returns-in-Long-clause-counts
returns-in-Long-clause-counts g c = Counts-trans _ _ _ _ _ _ c.loop.invariant.counts c.in-Long.ensures.counts
