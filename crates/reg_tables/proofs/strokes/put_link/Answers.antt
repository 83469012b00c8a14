use Rattle.std.proofs.Common.{◌≡◌, ◌++◌, ◌∙◌, ap, List, ℕ}
use Rattle.reg_journal.specs.Spelling.{number_field}
use Rattle.keeper_api.specs.Fields.{ended}
use Rattle.reg_tables.proofs.FitLaws.{link_fits, fits_so}
use Rattle.reg_tables.proofs.strokes.put_link.Goals as goal

pub put-requires : goal.put-requires
put-requires c =
    let a = c.args in
    let row : c.put_number-2.new.bytes.items ≡ number_field a.row.size ++ number_field a.row.moment =
    c.in_ok-put_number-2.ensures.bytes ∙ ap (λ (t : List ℕ). t ++ number_field a.row.moment) (c.in_ok-put_number.ensures.bytes ∙ ap (λ (t : List ℕ). t ++ number_field a.row.size) c.new-bytes.ensures.items) in
    fits_so 7 (ended a.name.now ++ a.digest.now) c.in_ok-key.key.items (number_field a.row.size ++ number_field a.row.moment) c.put_number-2.new.bytes.items c.in_ok-key.ensures.part row
    (link_fits a.name.now a.digest.now a.row.size a.row.moment c.in_ok-key.ensures.name c.in_ok-key.ensures.digest c.in_ok-put_number.ensures.number c.in_ok-put_number-2.ensures.number)
