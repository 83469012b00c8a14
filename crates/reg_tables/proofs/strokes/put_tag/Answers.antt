use Rattle.std.proofs.Common.{◌≡◌, ◌++◌, ◌∙◌, ap, List, ℕ}
use Rattle.keeper_api.specs.Fields.{ended}
use Rattle.reg_tables.proofs.FitLaws.{tag_fits, fits_so}
use Rattle.reg_tables.proofs.strokes.put_tag.Goals as goal

pub put-requires : goal.put-requires
put-requires c =
    let a = c.args in
    let row : c.put_digest.new.bytes.items ≡ a.digest.now = c.in_ok-put_digest.ensures.bytes ∙ ap (λ (t : List ℕ). t ++ a.digest.now) c.new-bytes.ensures.items in
    fits_so 4 (ended a.name.now ++ ended a.tag.now) c.in_ok-key.key.items a.digest.now c.put_digest.new.bytes.items c.in_ok-key.ensures.part row
    (tag_fits a.name.now a.tag.now a.digest.now c.in_ok-key.ensures.name c.in_ok-key.ensures.tag c.in_ok-put_digest.ensures.digest)
