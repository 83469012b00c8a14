use Rattle.reg_session.proofs.BlobLaws.{some_left}
use Rattle.reg_session.proofs.ConcludeLaws.{sends_head}
use Rattle.reg_session.proofs.replies.conclude_blob.Goals as goal

pub returns-then-head_only-clause-sends : goal.returns-then-head_only-clause-sends
returns-then-head_only-clause-sends g c =
    let some = some_left (g.B.Blob.rest c.args.blob) c.left.ensures.bytes in
    sends_head (g.B.Blob.rest c.args.blob) some.0 c.args.head_only c.args.last c.args.text.now (g.O.Sink.taken c.args.sink.now) (g.O.Sink.taken c.write_all.new.sink) c.write_all.result c.after.result some.1 c.if-head_only.true c.write_all.ensures.took c.after.ensures.goes
