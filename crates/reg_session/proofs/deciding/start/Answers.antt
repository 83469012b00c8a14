use Rattle.reg_session.proofs.DecidingLaws.{decided_by}
use Rattle.reg_session.proofs.deciding.start.Goals as goal

pub returns-clause-decides : goal.returns-clause-decides
returns-clause-decides g c body =
    decided_by g.H.Holder.between _ _ _ _ _ _ body _ c.start_upload.result c.reply_to.result (c.draw.result, c.draw.ensures, c.of_bytes-id.ensures, c.now.ensures.told)
    (λ h is so. ((_, _, is), so)) c.start_upload.ensures.held c.reply_to.ensures
