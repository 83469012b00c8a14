use Rattle.std.proofs.Common.{◌∙◌, ap, None}
use Rattle.keeper_api.specs.Rows.{with_row}
use Rattle.reg_tables.specs.Keys.{tag_key}
use Rattle.reg_tables.proofs.StepLaws.{tag_step}
use Rattle.reg_tables.proofs.steps.remove_tag.Goals as goal

pub returns : goal.returns
returns c rows past base h =
    let a = c.args in
    c.in_ok-drop_tag.ensures.rows rows
    ∙ ap (λ r. with_row r (tag_key a.name.now a.tag.now) None) h
    ∙ tag_step past base a.name.now a.tag.now None c.in_ok-drop_tag.ensures.name c.in_ok-drop_tag.ensures.tag
