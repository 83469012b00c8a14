use Rattle.std.proofs.Common.{List, ℕ, ◌∙◌, sym, subst, arith}
use Rattle.std.proofs.lemmas.Bool.Decides.{nat_tests}
use Rattle.std.specs.Io.KnownBytes.{Appends}
use Rattle.reg_replies.specs.Writing.{TookFront}
use Rattle.reg_session.proofs.BlobLaws.{bare_head, behind_head, behind_piece, counts_on, cut_head, took_front, took_all}
use Rattle.reg_session.proofs.PieceLaws.{piece_read}
use Rattle.reg_session.specs.declared.sending.Sent.TheVariants as sent
use Rattle.reg_session.proofs.sending.send_with_head.Goals as goal

pub returns-then-is_err-clause-took : goal.returns-then-is_err-clause-took
returns-then-is_err-clause-took g c =
    let old = g.O.Sink.taken c.args.sink.now in
    let new = g.O.Sink.taken c.write_all.new.sink in
    let p = c.in-Ok.ensures.piece in
    let read = piece_read c.args.head.now c.first_piece.new.room (g.B.Blob.rest c.args.blob.now) (g.B.Blob.rest c.first_piece.new.blob) c.in-Ok.length p in
    let failed = sym c.is_err.ensures.value ∙ c.if-is_err.true in
    behind_piece _ _ c.args.head.now p.0 _ old new sent.SinkFault read
    (cut_head _ _ old new (counts_on _ _ _ p.0 c.left.ensures.bytes read)
    (subst (λ (t : List ℕ). TookFront old new t) p.1 (took_front _ _ _ c.write_all.result failed c.write_all.ensures.took)))

pub returns-else-is_err-clause-took : goal.returns-else-is_err-clause-took
returns-else-is_err-clause-took g c =
    let old = g.O.Sink.taken c.args.sink.now in
    let mid = g.O.Sink.taken c.write_all.new.sink in
    let new = g.O.Sink.taken c.send_body.new.sink in
    let p = c.in-Ok.ensures.piece in
    let read = piece_read c.args.head.now c.first_piece.new.room (g.B.Blob.rest c.args.blob.now) (g.B.Blob.rest c.first_piece.new.blob) c.in-Ok.length p in
    let done = sym c.is_err.ensures.value ∙ c.if-is_err.false in
    behind_piece _ _ c.args.head.now p.0 _ old new c.send_body.result read
    (behind_head _ _ old mid new c.send_body.result
    (subst (λ (t : List ℕ). Appends old mid t) p.1 (took_all _ _ _ c.write_all.result done c.write_all.ensures.took))
    c.send_body.ensures.took)

pub returns-in-Ok-write_all-clause-took : goal.returns-in-Ok-write_all-clause-took
returns-in-Ok-write_all-clause-took g c =
    bare_head _ c.args.head.now _ _ c.left.ensures.bytes (grind (arith, nat_tests, c.left.ensures.left, c.if-left-eq0.false)) c.in-Ok-write_all.ensures.took

pub returns-in-Err-write_all-clause-took : goal.returns-in-Err-write_all-clause-took
returns-in-Err-write_all-clause-took g c = cut_head _ c.args.head.now _ _ c.left.ensures.bytes c.in-Err-write_all.ensures.took
