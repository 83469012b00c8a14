use Rattle.std.proofs.Common.{◌∙◌, ap, Some}
use Rattle.keeper_api.specs.Rows.{with_row}
use Rattle.reg_tables.specs.Derived.{with_past}
use Rattle.reg_tables.specs.Keys.{blob_key}
use Rattle.reg_tables.specs.Spelled.{blob_spelled}
use Rattle.reg_tables.proofs.BlobLaws.{come_step}
use Rattle.reg_tables.proofs.TouchLaws.{noted}
use Rattle.reg_tables.proofs.steps.bring_blob.Goals as goal

pub returns-clause-step : goal.returns-clause-step
returns-clause-step g c tells past base h =
    let a = c.args in
    let rows = (g.K.Keeper.kept a.keeper.now).rows in
    let stood = c.in_ok-standing_at.field-0 in
    noted c.put_blob.result _ c.in_ok-noting.ensures.ok c.put_blob.ensures.rows rows
    ∙ ap (λ r. with_row r (blob_key a.digest.now) (Some (blob_spelled c.brought-row.result))) h
    ∙ ap (λ b. with_row (with_past past base) (blob_key a.digest.now) (Some (blob_spelled b))) c.brought-row.ensures
    ∙ come_step past base a.digest.now c.in_ok-standing_at.ensures.digest a.size a.now stood (c.in_ok-standing_at.ensures.value tells ∙ ap (λ r. r (blob_key a.digest.now)) h)
