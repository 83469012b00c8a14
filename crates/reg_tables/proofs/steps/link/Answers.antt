use Rattle.std.proofs.Common.{◌∙◌, ap, Some}
use Rattle.keeper_api.specs.Rows.{with_row}
use Rattle.reg_journal.specs.Changes.{link_of}
use Rattle.reg_tables.specs.Derived.{link_row}
use Rattle.reg_tables.specs.Keys.{link_key}
use Rattle.reg_tables.proofs.StepLaws.{link_step}
use Rattle.reg_tables.proofs.steps.link.Goals as goal

pub returns : goal.returns
returns c rows past base h =
    let a = c.args in
    c.in_ok-put_link.ensures.rows rows
    ∙ ap (λ r. with_row r (link_key a.name.now a.digest.now) (link_row (Some (link_of a.size a.now)))) h
    ∙ link_step past base a.name.now a.digest.now (Some (link_of a.size a.now)) c.in_ok-put_link.ensures.name c.in_ok-put_link.ensures.digest
