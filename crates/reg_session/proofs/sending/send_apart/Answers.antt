use Rattle.std.proofs.Common.{◌∙◌, sym}
use Rattle.reg_session.proofs.BlobLaws.{behind_head, cut_head, took_front, took_all}
use Rattle.reg_session.proofs.sending.send_apart.Goals as goal

pub returns-then-is_err-clause-took : goal.returns-then-is_err-clause-took
returns-then-is_err-clause-took g c = cut_head _ _ _ _ c.left.ensures.bytes (took_front _ _ _ c.write_all.result (sym c.is_err.ensures.value ∙ c.if-is_err.true) c.write_all.ensures.took)

pub returns-clause-took : goal.returns-clause-took
returns-clause-took g c = behind_head _ _ _ (g.O.Sink.taken c.write_all.new.sink) _ c.send_body.result (took_all _ _ _ c.write_all.result (sym c.is_err.ensures.value ∙ c.if-is_err.false) c.write_all.ensures.took) c.send_body.ensures.took
