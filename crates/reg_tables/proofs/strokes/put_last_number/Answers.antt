use Rattle.std.proofs.Common.{◌≡◌, ◌++◌, ◌∷◌, [], ◌∙◌, ap, List, ℕ, arith}
use Rattle.reg_journal.specs.Entries.{IsNumber}
use Rattle.reg_journal.specs.Spelling.{number_field}
use Rattle.reg_tables.proofs.FitLaws.{last_number_fits, fits_so}
use Rattle.reg_tables.proofs.strokes.put_last_number.Goals as goal

pub put-requires : goal.put-requires
put-requires c =
    let a = c.args in
    let number : IsNumber a.number = omega (arith, c.ranges.number.fits) in
    let key : c.push.new.self.items ≡ 3 ∷ [] = c.in_ok-push.ensures.items ∙ ap (λ (t : List ℕ). t ++ 3 ∷ []) c.new-key.ensures.items in
    fits_so 0 (3 ∷ []) c.push.new.self.items (number_field a.number) c.in_ok-row.row.items key c.in_ok-row.ensures (last_number_fits a.number number)
