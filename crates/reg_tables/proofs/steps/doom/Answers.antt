use Rattle.std.proofs.Common.{◌∙◌, ◌∷◌, ap, Some}
use Rattle.keeper_api.specs.Rows.{with_row}
use Rattle.reg_journal.specs.Changes.{condemned_at}
use Rattle.reg_journal.specs.Spelling.{number_field}
use Rattle.reg_tables.specs.Keys.{blob_key}
use Rattle.reg_tables.proofs.BlobLaws.{doom_step}
use Rattle.reg_tables.proofs.steps.doom.Goals as goal

pub returns : goal.returns
returns c rows past base h =
    let a = c.args in
    c.in_ok-put_blob.ensures.rows rows
    ∙ ap (λ r. with_row r (blob_key a.digest.now) (Some (3 ∷ number_field a.number))) h
    ∙ doom_step past base a.digest.now c.in_ok-put_blob.ensures.digest (condemned_at a.number a.now)
