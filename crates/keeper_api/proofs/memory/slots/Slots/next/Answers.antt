use Rattle.std.proofs.Common.{ap, sym, ◌∙◌}
use Rattle.keeper_api.specs.Rows.{table_of}
use Rattle.keeper_api.proofs.SlotLaws.{next_row}
use Rattle.keeper_api.proofs.memory.slots.Slots.next.Goals as goal

pub returns-clause-value : goal.returns-clause-value
returns-clause-value c =
    let some = c.in-Some-default-Some in
    rw (c.in_ok-copy.ensures, c.in_ok-row.ensures.row) (next_row c.args.self.now.map c.args.after.now some.key.now some.field-0-1.now _ c.next.new.self (rw some.ensures.steps at (c.range-behind.ensures.in_range tt)) some.field-0-1-is (ap table_of c.parts.ensures ∙ c.if-parts.false ∙ sym (ap table_of c.parts-2.ensures)))
