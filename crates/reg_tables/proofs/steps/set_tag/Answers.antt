use Rattle.std.proofs.Common.{◌∙◌, ap, Some}
use Rattle.keeper_api.specs.Rows.{with_row}
use Rattle.reg_tables.specs.Keys.{tag_key}
use Rattle.reg_tables.proofs.StepLaws.{tag_step}
use Rattle.reg_tables.proofs.steps.set_tag.Goals as goal

pub returns : goal.returns
returns c rows past base h =
    let a = c.args in
    c.in_ok-put_tag.ensures.rows rows
    ∙ ap (λ r. with_row r (tag_key a.name.now a.tag.now) (Some a.digest.now)) h
    ∙ tag_step past base a.name.now a.tag.now (Some a.digest.now) c.in_ok-put_tag.ensures.name c.in_ok-put_tag.ensures.tag
