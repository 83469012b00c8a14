use Rattle.std.proofs.Common.{Some, inl, subst, sym}
use Rattle.depot_api.specs.Stages.{Staged}
use Rattle.upload_sessions.specs.Sealing.{IsUnsealed}
use Rattle.reg_session.specs.Uploads.{Stages}
use Rattle.reg_session.proofs.CompletingLaws.{added_completes, unsealed_completes}
use Rattle.reg_session.proofs.GatheringLaws.{some_faults}
use Rattle.reg_session.proofs.completing.finish_with.Goals as goal

pub returns-in-Ok-clause-completes : goal.returns-in-Ok-clause-completes
returns-in-Ok-clause-completes g c ask body before h upload gives stages =
    c.finish_sealed.ensures.completes ask body before h upload gives (subst (λ (s : Staged). Stages before s body) (sym c.in-Ok.ensures.sealed.held_stays) stages)

pub returns-in-Failed-clause-completes : goal.returns-in-Failed-clause-completes
returns-in-Failed-clause-completes g c ask body before h upload gives stages =
    let S = g.D.S.Stage in
    let reads = subst (λ u. IsUnsealed S.held S.faults c.args.stage u) c.in-Failed.is c.in-Err.ensures.unsealed in
    unsealed_completes g.H.Holder.between _ _ ask (Some c.args.digest.now) body before _ h c.args.claim upload gives (subst (λ (s : Staged). Stages before s body) (sym reads.held_stays) stages)
    _ c.refusal.result c.shelve.ensures.held (some_faults (S.faults c.args.stage) _ (reads.cause.rose tt)) c.refusal.ensures

pub returns-in-NoMemory-clause-completes : goal.returns-in-NoMemory-clause-completes
returns-in-NoMemory-clause-completes g c ask body before h upload gives stages =
    let S = g.D.S.Stage in
    let reads = subst (λ u. IsUnsealed S.held S.faults c.args.stage u) c.in-NoMemory.is c.in-Err.ensures.unsealed in
    added_completes g.H.Holder.between _ _ ask (Some c.args.digest.now) body before _ h c.args.claim upload gives (subst (λ (s : Staged). Stages before s body) (sym reads.held_stays) stages)
    _ c.refusal-in-NoMemory.result c.shelve-in-NoMemory.ensures.held (inl c.refusal-in-NoMemory.ensures)
