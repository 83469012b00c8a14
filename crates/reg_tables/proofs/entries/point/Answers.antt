use Rattle.std.proofs.Common.{◌∷◌, [], subst, Some}
use Rattle.std.specs.Prelude.{IsTrue}
use Rattle.keeper_api.specs.Rows.{Kept}
use Rattle.reg_journal.specs.Changes.{with_tag}
use Rattle.reg_journal.specs.Past.{Past}
use Rattle.reg_tables.specs.InnerPending.{Works}
use Rattle.reg_tables.specs.InnerSteps.{touched_manifests, touched_target}
use Rattle.reg_tables.proofs.TouchLaws.{noted}
use Rattle.reg_tables.proofs.entries.point.Goals as goal

pub returns-clause-step : goal.returns-clause-step
returns-clause-step g c tells past base h =
    let a = c.args in
    let target : Past = touched_target a.name.now a.tag.now a.now past in
    let step = subst (λ (k : Kept). IsTrue k.tells → Works k.rows c.set_tag.new.pending c.touch_manifest.new.pending (touched_manifests a.name.now (a.digest.now ∷ []) a.now) (λ r. r)) c.in_ok-touch_target.ensures.reads.reads.held_stays c.in_ok-touch_manifest.ensures.step in
    step tells (with_tag a.name.now a.tag.now (Some a.digest.now) target) base
    (noted c.set_tag.result _ c.in_ok-noting.ensures.ok c.set_tag.ensures (g.K.Keeper.kept a.keeper.now).rows target base (c.in_ok-touch_target.ensures.step tells past base h))
