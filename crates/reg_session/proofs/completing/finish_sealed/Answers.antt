use Rattle.std.proofs.Common.{Some, subst, sym, ◌∙◌}
use Rattle.std.specs.Prelude.{IsTrue}
use Rattle.reg_digest.specs.Hashing.{hashes_to}
use Rattle.files_service.specs.Finishing.{ending_of}
use Rattle.reg_world.specs.Moves.{came_to, finishes}
use Rattle.reg_session.specs.Holds.{Held}
use Rattle.reg_session.specs.Uploads.{Stages}
use Rattle.reg_session.proofs.CompletingLaws.{added_completes, differs_back, finished_completes, other_digest, same_digest}
use Rattle.reg_session.proofs.UploadLaws.{back_of}
use Rattle.reg_session.proofs.completing.finish_sealed.Goals as goal

pub returns-then-ne-clause-completes : goal.returns-then-ne-clause-completes
returns-then-ne-clause-completes g c ask body before h upload gives stages =
    let S = g.D.S.Stage in
    let same = sym c.unseal.ensures in
    added_completes g.H.Holder.between _ _ ask (Some c.args.digest.now) body before _ h c.args.claim upload gives (subst (λ s. Stages before (S.held s) body) same stages) _ c.differs-reply.result c.shelve.ensures.held
    (differs_back ask c.args.digest.now c.digest-found.result c.args.claim _ c.differs-reply.result upload (other_digest c.digest-found.result c.args.digest.now c.if-ne.ensures)
    (subst (λ s. IsTrue (S.held s).tells → IsTrue (hashes_to c.digest-found.result (S.held s).bytes)) same c.digest-found.ensures.hashes) c.differs-reply.ensures)

pub returns-clause-completes : goal.returns-clause-completes
returns-clause-completes g c ask body before h upload gives stages =
    let S = g.D.S.Stage in
    let same = same_digest c.digest-found.result c.args.digest.now c.if-ne.ensures in
    let is = sym c.digest-found.ensures.digest ∙ same in
    finished_completes g.H.Holder.between _ _ _ ask c.args.digest.now body before _ h c.args.claim _ _ upload gives stages
    (λ told. subst (λ d. IsTrue (hashes_to d (S.held c.args.sealed.stage).bytes)) same (c.digest-found.ensures.hashes told))
    (subst (λ d. Held g.H.Holder.between (g.H.Holder.at c.args.holder.now) (finishes c.args.claim (S.held c.args.sealed.stage) d) (came_to (ending_of c.finish-finished.result)) (g.H.Holder.at c.finish-finished.new.holder)) is c.finish-finished.ensures.held)
    (c.end.ensures.ends c.args.claim (S.held c.args.sealed.stage) (back_of S.held c.args.claim c.args.sealed c.finish-finished.result c.finish-finished.ensures.back))
