use Rattle.std.proofs.Common.{subst}
use Rattle.reg_session.specs.InnerUploads.{IsUpload}
use Rattle.reg_session.proofs.CompletingLaws.{added_completes, patched_back}
use Rattle.reg_session.proofs.completing.complete.Goals as goal

pub returns-in-Some-clause-completes : goal.returns-in-Some-clause-completes
returns-in-Some-clause-completes g c ask body before h upload gives stages =
    c.finish_with.ensures.completes ask body before h (subst (λ d. IsUpload ask d) c.in-Some.is upload) gives stages

pub returns-in-None-clause-completes : goal.returns-in-None-clause-completes
returns-in-None-clause-completes g c ask body before h upload gives stages =
    added_completes g.H.Holder.between _ _ ask c.args.digest body before _ h c.args.claim upload gives stages _ c.patched-reply.result c.shelve.ensures.held
    (patched_back ask c.args.claim _ c.length.result c.patched-reply.result (subst (λ d. IsUpload ask d) c.in-None.is upload) c.length.ensures.length c.patched-reply.ensures)
