use Rattle.std.proofs.Common.{◌∙◌, ap, None}
use Rattle.keeper_api.specs.Rows.{with_row}
use Rattle.reg_tables.specs.Keys.{link_key}
use Rattle.reg_tables.proofs.StepLaws.{link_step}
use Rattle.reg_tables.proofs.steps.unlink.Goals as goal

pub returns : goal.returns
returns c rows past base h =
    let a = c.args in
    c.in_ok-drop_spot.ensures.rows rows
    ∙ ap (λ r. with_row r (link_key a.name.now a.digest.now) None) h
    ∙ link_step past base a.name.now a.digest.now None c.in_ok-drop_spot.ensures.name c.in_ok-drop_spot.ensures.digest
