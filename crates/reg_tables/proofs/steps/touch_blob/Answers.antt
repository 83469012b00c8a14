use Rattle.std.proofs.Common.{◌∙◌, ap, sym, Some}
use Rattle.std.specs.Option.{option_map}
use Rattle.keeper_api.specs.Rows.{with_row}
use Rattle.reg_tables.specs.Derived.{with_past}
use Rattle.reg_tables.specs.Keys.{blob_key}
use Rattle.reg_tables.specs.Spelled.{blob_spelled}
use Rattle.reg_tables.proofs.BlobLaws.{touch_blob_step, touch_none_step}
use Rattle.reg_tables.proofs.TouchLaws.{noted}
use Rattle.reg_tables.proofs.steps.touch_blob.Goals as goal

pub returns-in_ok-noting-in-Some-clause-step : goal.returns-in_ok-noting-in-Some-clause-step
returns-in_ok-noting-in-Some-clause-step g c tells past base h =
    let a = c.args in
    let rows = (g.K.Keeper.kept a.keeper.now).rows in
    noted c.put_blob.result _ c.in_ok-noting-in-Some.ensures.ok c.put_blob.ensures.rows rows
    ∙ ap (λ r. with_row r (blob_key a.digest.now) (Some (blob_spelled c.touched.result))) h
    ∙ ap (λ b. with_row (with_past past base) (blob_key a.digest.now) (Some (blob_spelled b))) c.touched.ensures
    ∙ touch_blob_step past base a.digest.now c.in_ok-row.ensures.digest a.now c.in-Some.row
    (ap (option_map blob_spelled) (sym c.in-Some.is) ∙ c.in_ok-row.ensures.value tells ∙ ap (λ r. r (blob_key a.digest.now)) h)

pub returns-in-None-clause-step : goal.returns-in-None-clause-step
returns-in-None-clause-step g c tells past base h =
    let a = c.args in
    h ∙ touch_none_step past base a.digest.now c.in_ok-row.ensures.digest a.now
    (ap (option_map blob_spelled) (sym c.in-None.is) ∙ c.in_ok-row.ensures.value tells ∙ ap (λ r. r (blob_key a.digest.now)) h)
