use Rattle.std.proofs.Common.{◌∙◌, refl, ap, None}
use Rattle.keeper_api.specs.Rows.{Rows, with_row}
use Rattle.reg_journal.specs.Past.{Past}
use Rattle.reg_tables.specs.Derived.{with_past}
use Rattle.reg_tables.specs.InnerSteps.{removed}
use Rattle.reg_tables.specs.Keys.{payload_key, manifest_queue_key}
use Rattle.reg_tables.proofs.EntryLaws.{beside_step, beside_manifest}
use Rattle.reg_tables.proofs.TouchLaws.{noted}
use Rattle.reg_tables.proofs.entries.take_away.Goals as goal

pub returns-clause-step : goal.returns-clause-step
returns-clause-step g c tells past base h =
    let a = c.args in
    let rows = (g.K.Keeper.kept a.keeper.now).rows in
    let left : Past = removed a.name.now a.digest.now a.now past in
    let payload = payload_key a.name.now a.digest.now in
    let place = manifest_queue_key a.name.now a.digest.now in
    noted c.drop_spot-2.result _ c.in_ok-noting-2.ensures.ok c.drop_spot-2.ensures.rows rows
    ∙ ap (λ (r : Rows). with_row r place None)
    (noted c.drop_spot.result _ c.in_ok-noting.ensures.ok c.drop_spot.ensures.rows rows
    ∙ ap (λ (r : Rows). with_row r payload None) (c.in_ok-remove_manifest.ensures.step tells past base h)
    ∙ beside_step left base payload None refl)
    ∙ beside_step left (with_row base payload None) place None refl
    ∙ ap (with_past left) (beside_manifest a.name.now a.digest.now base)
