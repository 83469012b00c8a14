use Rattle.std.proofs.Common.{◌≡◌, ◌++◌, [], ◌∙◌, ap, List, ℕ}
use Rattle.keeper_api.specs.Fields.{ended}
use Rattle.reg_tables.proofs.FitLaws.{child_fits, fits_so}
use Rattle.reg_tables.proofs.strokes.put_child.Goals as goal

pub put-requires : goal.put-requires
put-requires c =
    let a = c.args in
    let key : c.put_digest.new.bytes.items ≡ (ended a.name.now ++ a.parent.now) ++ a.child.now = c.in_ok-put_digest.ensures.bytes ∙ ap (λ (t : List ℕ). t ++ a.child.now) c.in_ok-key.ensures.part in
    fits_so 6 ((ended a.name.now ++ a.parent.now) ++ a.child.now) c.put_digest.new.bytes.items [] c.new.result.items key c.new.ensures.items
    (child_fits a.name.now a.parent.now a.child.now c.in_ok-key.ensures.name c.in_ok-key.ensures.digest c.in_ok-put_digest.ensures.digest)
