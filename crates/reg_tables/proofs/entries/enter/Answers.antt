use Rattle.std.proofs.Common.{◌∙◌, ◌+◌, length, ap, sym, List}
use Rattle.keeper_api.specs.Rows.{Rows}
use Rattle.reg_journal.specs.declared.entry.Entry.{Entry}
use Rattle.reg_journal.specs.Changes.{apply}
use Rattle.reg_journal.specs.Past.{Past}
use Rattle.reg_tables.specs.Derived.{with_past}
use Rattle.reg_tables.specs.InnerSteps.{made, without_beside}
use Rattle.reg_tables.proofs.EntryLaws.{entered, made_entries, taken_one}
use Rattle.reg_tables.proofs.TouchLaws.{noted}
use Rattle.reg_tables.proofs.entries.enter.Goals as goal

pub returns-clause-step : goal.returns-clause-step
returns-clause-step g c tells past base is few h =
    let a = c.args in
    let entry : Entry = a.entry.now in
    let left : Past = made a.number entry.moment entry.what past in
    let others : Rows = without_beside entry.what base in
    noted c.log.result _ c.in_ok-noting.ensures.ok c.log.ensures (g.K.Keeper.kept a.keeper.now).rows left others
    (is ∙ ap (λ (es : List Entry). length es + 1) (sym (made_entries past a.number entry.moment entry.what))) few (c.in_ok-change.ensures.step tells past base h)
    ∙ entered past others a.number entry is
    ∙ ap (with_past (apply past entry)) (taken_one entry base)
