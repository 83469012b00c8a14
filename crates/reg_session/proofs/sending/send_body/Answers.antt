use Rattle.std.proofs.Common.{◌∙◌, arith, sym}
use Rattle.std.proofs.lemmas.Bool.Decides.{nat_tests}
use Rattle.reg_session.proofs.BlobLaws.{read_piece, sent_part, sent_front, sent_more, took_front, took_all}
use Rattle.reg_session.proofs.sending.send_body.Goals as goal

pub returns-in_default-clause-took : goal.returns-in_default-clause-took
returns-in_default-clause-took g c = sent_part _ _ _ _ c.loop-blob.invariant.sent c.left.ensures.bytes (grind (arith, nat_tests, c.left.ensures.left, c.loop-blob-test.true))

pub returns-then-is_err-clause-took : goal.returns-then-is_err-clause-took
returns-then-is_err-clause-took g c =
    let piece = read_piece _ _ c.in-Ok.length _ _ c.in-Ok.ensures.count c.in-Ok.ensures.bytes c.in-Ok.ensures.tells c.left.ensures.bytes c.read.auto.into in
    let failed = sym c.is_err.ensures.value ∙ c.if-is_err.true in
    sent_front _ _ _ _ _ _ _ _ c.loop-blob.invariant.sent c.left.ensures.bytes piece (took_front _ _ _ c.write_all.result failed c.write_all.ensures.took)

pub loop-blob-preserved : goal.loop-blob-preserved
loop-blob-preserved g c =
    let piece = read_piece _ _ c.in-Ok.length _ _ c.in-Ok.ensures.count c.in-Ok.ensures.bytes c.in-Ok.ensures.tells c.left.ensures.bytes c.read.auto.into in
    let sent = sym c.is_err.ensures.value ∙ c.if-is_err.false in
    record {
      sent = sent_more _ _ _ _ _ _ _ _ c.loop-blob.invariant.sent piece (took_all _ _ _ c.write_all.result sent c.write_all.ensures.took);
      room = c.read.auto.into ∙ c.loop-blob.invariant.room;
      blob_later = omega (arith, c.loop-blob.invariant.blob_later, c.in-Ok.ensures.cause.later);
      sink_later = omega (arith, c.loop-blob.invariant.sink_later, c.write_all.ensures.cause.later);
    }
