use Rattle.std.proofs.Common.{◌≡◌, ◌∙◌, ◌++◌, refl, subst}
use Rattle.std.specs.Prelude.{IfOk}
use Rattle.keeper_api.specs.Fields.{ended}
use Rattle.reg_tables.proofs.RemovedLaws.{gathered}
use Rattle.reg_tables.proofs.TouchLaws.{noted}
use Rattle.reg_tables.proofs.manifests.take_manifest.Goals as goal

pub returns-clause-step : goal.returns-clause-step
returns-clause-step g c tells past base h =
    let a = c.args in
    let kept = g.K.Keeper.kept in
    let front : c.in_ok-front.front.items ≡ ended a.name.now ++ a.digest.now = subst (λ r. IfOk r (λ b. b.items ≡ ended a.name.now ++ a.digest.now)) c.in_ok-front.ensures.ok c.spot_part.ensures.part in
    let spot = ended a.name.now ++ a.digest.now in
    noted c.drop_manifest.result _ c.in_ok-noting.ensures.ok c.drop_manifest.ensures past base (kept a.keeper.now).rows h
    (gathered 5 a.pending.now c.in_ok-named.named.items c.deref-3.result.now c.deref.result.now spot (kept a.keeper.now) (kept a.keeper.now) (c.deref.ensures.value ∙ front) refl c.deref-3.ensures.value c.in_ok-named.ensures.parts tells)
    (gathered 6 a.pending.now c.in_ok-children.children.items c.deref-4.result.now c.deref-2.result.now spot (kept a.keeper.now) (kept c.gather.new.keeper) (c.deref-2.ensures.value ∙ front) c.in_ok-named.ensures.reads.reads.held_stays c.deref-4.ensures.value c.in_ok-children.ensures.parts tells)
