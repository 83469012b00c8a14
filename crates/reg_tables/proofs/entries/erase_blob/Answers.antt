use Rattle.std.proofs.Common.{◌∙◌, refl, ap, None}
use Rattle.keeper_api.specs.Rows.{Rows, with_row}
use Rattle.reg_tables.specs.InnerSteps.{erased}
use Rattle.reg_tables.specs.Keys.{blob_queue_key}
use Rattle.reg_tables.proofs.EntryLaws.{beside_step}
use Rattle.reg_tables.proofs.entries.erase_blob.Goals as goal

pub returns : goal.returns
returns c rows past base h =
    let a = c.args in
    c.in_ok-drop_digest.ensures.rows rows
    ∙ ap (λ (r : Rows). with_row r (blob_queue_key a.digest.now) None) (c.in_ok-erase.ensures rows past base h)
    ∙ beside_step (erased a.digest.now past) base (blob_queue_key a.digest.now) None refl
