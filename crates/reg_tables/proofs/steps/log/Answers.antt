use Rattle.std.proofs.Common.{◌∙◌, ap, Some}
use Rattle.keeper_api.specs.Rows.{with_row}
use Rattle.reg_journal.specs.Spelling.{number_field, entry_spelled}
use Rattle.reg_tables.specs.Keys.{last_number_key, entry_key}
use Rattle.reg_tables.proofs.LogLaws.{log_step}
use Rattle.reg_tables.proofs.steps.log.Goals as goal

pub returns : goal.returns
returns c rows past base is few h =
    let a = c.args in
    c.in_ok-put_last_number.ensures rows
    ∙ ap (λ r. with_row r last_number_key (Some (number_field a.number))) (c.in_ok-put_entry.ensures rows)
    ∙ ap (λ r. with_row (with_row r (entry_key a.number) (Some (entry_spelled a.entry.now))) last_number_key (Some (number_field a.number))) h
    ∙ log_step past base a.number a.entry.now is few
