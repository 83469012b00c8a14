use Rattle.std.proofs.Common.{arith, length, drop, ◌-◌}
use Rattle.std.proofs.lemmas.List.{length-take, length-drop}
use Rattle.reg_replies.proofs.WritingLaws.{TookFront-refused, Sends-err, Appends-piece}
use Rattle.reg_replies.proofs.writing.write_all.Goals as goal

pub returns-in_err-written-clause-took : goal.returns-in_err-written-clause-took
returns-in_err-written-clause-took g c =
    Sends-err _ _ _ c.from_residual.result c.from_residual.ensures.0 (TookFront-refused _ (g.O.Sink.taken c.loop-written.sink) _ c.args.text.now c.loop-written.written c.loop-written.invariant.took c.in_err-written.ensures.bytes)

pub loop-written-preserved : goal.loop-written-preserved
loop-written-preserved g c = record {
  within = omega (arith, c.in_ok-written.ensures.count.0, length-take (length c.args.text.now - c.loop-written.written) (drop c.loop-written.written c.args.text.now), length-drop c.loop-written.written c.args.text.now);
  took = Appends-piece _ (g.O.Sink.taken c.loop-written.sink) _ c.args.text.now c.loop-written.written c.in_ok-written.field-0 c.loop-written.invariant.took c.in_ok-written.ensures.bytes;
  later = omega (arith, c.loop-written.invariant.later, c.in_ok-written.ensures.cause.later);
}
