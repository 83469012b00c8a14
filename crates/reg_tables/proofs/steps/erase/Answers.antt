use Rattle.std.proofs.Common.{◌∙◌, ap, None}
use Rattle.keeper_api.specs.Rows.{with_row}
use Rattle.reg_tables.specs.Keys.{blob_key}
use Rattle.reg_tables.proofs.StepLaws.{blob_step}
use Rattle.reg_tables.proofs.steps.erase.Goals as goal

pub returns : goal.returns
returns c rows past base h =
    let digest = c.args.digest.now in
    c.in_ok-drop_digest.ensures.rows rows
    ∙ ap (λ r. with_row r (blob_key digest) None) h
    ∙ blob_step past base digest None None (past.blob_touched digest) c.in_ok-drop_digest.ensures.digest
