use Rattle.std.proofs.Common.{sym, subst, Option}
use Rattle.reg_session.specs.InnerReplies.{LeavesSome}
use Rattle.reg_session.proofs.BlobLaws.{some_left}
use Rattle.reg_session.proofs.replies.ask_left.Goals as goal

pub returns-in-Some : goal.returns-in-Some
returns-in-Some g c =
    subst (λ (b : Option g.row.B.Denot). LeavesSome g.B.Blob.rest b) (sym c.in-Some.is) (some_left (g.B.Blob.rest c.in-Some.blob) c.left.ensures.bytes)
