use Rattle.std.proofs.Common.{◌∙◌, arith}
use Rattle.reg_journal.specs.Entries.{IsNumber}
use Rattle.reg_journal.specs.Spelling.{number_field, entry_spelled}
use Rattle.reg_tables.proofs.FitLaws.{entry_fits, fits_so}
use Rattle.reg_tables.proofs.strokes.put_entry.Goals as goal

pub put-requires : goal.put-requires
put-requires c =
    let a = c.args in
    let number : IsNumber a.number = omega (arith, c.ranges.number.fits) in
    fits_so 1 (number_field a.number) c.in_ok-key.key.items (entry_spelled a.entry.now) c.into_vec.result.items c.in_ok-key.ensures (c.into_vec.ensures ∙ c.in_ok-row.ensures.spelled)
    (entry_fits a.number a.entry.now number c.requires c.in_ok-row.ensures.entry)
