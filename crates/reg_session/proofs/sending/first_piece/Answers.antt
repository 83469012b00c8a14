use Rattle.std.proofs.Common.{length, drop, refl, arith}
use Rattle.std.proofs.lemmas.List.{length-drop}
use Rattle.reg_session.proofs.PieceLaws.{puts_first}
use Rattle.reg_session.proofs.sending.first_piece.Goals as goal

pub returns-clause-piece : goal.returns-clause-piece
returns-clause-piece g c =
    puts_first c.args.head.now c.copy_from_slice.new.self (drop (length c.args.head.now) c.args.room.now) _ c.read.new.into _ c.in_ok-count.count _ (g.B.Blob.rest c.read.new.self) c.copy_from_slice.ensures.after (omega (arith, c.requires, length-drop (length c.args.head.now) c.args.room.now)) refl refl c.read.auto.into c.in_ok-count.ensures.count c.in_ok-count.ensures.bytes c.in_ok-count.ensures.tells
