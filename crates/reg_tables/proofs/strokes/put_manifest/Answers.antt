use Rattle.std.proofs.Common.{◌≡◌, ◌++◌, ◌∷◌, [], ◌∙◌, ap, List, ℕ}
use Rattle.reg_journal.specs.Spelling.{number_field, kind_field}
use Rattle.keeper_api.specs.Fields.{ended}
use Rattle.reg_tables.proofs.FitLaws.{manifest_fits, fits_so}
use Rattle.reg_tables.proofs.strokes.put_manifest.Goals as goal

pub put-requires : goal.put-requires
put-requires c =
    let a = c.args in
    let kind : c.push.new.self.items ≡ kind_field a.row.kind = c.in_ok-push.ensures.items ∙ ap (λ (t : List ℕ). t ++ c.number_of_kind.result ∷ []) c.new-bytes.ensures.items ∙ ap (λ (n : ℕ). n ∷ []) c.number_of_kind.ensures in
    let row : c.put_number-2.new.bytes.items ≡ kind_field a.row.kind ++ (number_field a.row.size ++ number_field a.row.touched) =
    c.in_ok-put_number-2.ensures.bytes ∙ ap (λ (t : List ℕ). t ++ number_field a.row.touched) (c.in_ok-put_number.ensures.bytes ∙ ap (λ (t : List ℕ). t ++ number_field a.row.size) kind) in
    fits_so 2 (ended a.name.now ++ a.digest.now) c.in_ok-key.key.items (kind_field a.row.kind ++ (number_field a.row.size ++ number_field a.row.touched)) c.put_number-2.new.bytes.items c.in_ok-key.ensures.part row
    (manifest_fits a.name.now a.digest.now a.row.kind a.row.size a.row.touched c.in_ok-key.ensures.name c.in_ok-key.ensures.digest c.in_ok-put_number.ensures.number c.in_ok-put_number-2.ensures.number)
