use Rattle.std.proofs.Common.{◌≡◌, ◌++◌, ◌∙◌, ap, List, ℕ, rules}
use Rattle.reg_journal.specs.Spelling.{free_field}
use Rattle.keeper_api.specs.Fields.{ended}
use Rattle.reg_tables.proofs.FitLaws.{named_fits, fits_so}
use Rattle.reg_tables.proofs.strokes.put_named.Goals as goal

pub put-requires : goal.put-requires
put-requires c =
    let a = c.args in
    let named = a.named.now in
    let key : c.put_digest.new.bytes.items ≡ (ended a.name.now ++ a.manifest.now) ++ named.digest = c.in_ok-put_digest.ensures.bytes ∙ ap (λ (t : List ℕ). t ++ named.digest) c.in_ok-key.ensures.part in
    let row : c.push.new.self.items ≡ free_field named.free = search rules in
    fits_so 5 ((ended a.name.now ++ a.manifest.now) ++ named.digest) c.put_digest.new.bytes.items (free_field named.free) c.push.new.self.items key row
    (named_fits a.name.now a.manifest.now named.digest named.free c.in_ok-key.ensures.name c.in_ok-key.ensures.digest c.in_ok-put_digest.ensures.digest)
