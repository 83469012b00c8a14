use Rattle.std.proofs.Common.{◌≡◌, None, sym, ap, ◌∙◌, arith}
use Rattle.std.proofs.lemmas.Option.{none-some}
use Rattle.reg_journal.specs.InnerReading.{entry_at}
use Rattle.reg_journal.proofs.EntryLaws.{entry_takes, entry_again}
use Rattle.reg_journal.proofs.reading.read_entry.Goals as goal

pub returns-in-Ok : goal.returns-in-Ok
returns-in-Ok c = entry_takes c.args.bytes.now c.in-Ok.entry (λ i. omega (arith, c.type_inv.bytes i)) c.in-Ok.ensures

pub returns-in-Err-Malformed : goal.returns-in-Err-Malformed
returns-in-Err-Malformed c = λ value is spelled.
    let none : entry_at c.args.bytes.now ≡ None = rw c.in-Err-Malformed.field-0-is at c.in-Err-Malformed.ensures in
    none-some value (sym none ∙ (ap entry_at (sym spelled) ∙ entry_again value is))
