use Rattle.std.proofs.Common.{◌∷◌, ◌∙◌, ap, sym, List, ℕ, subst}
use Rattle.keeper_api.specs.Tables.{Fits}
use Rattle.reg_tables.proofs.strokes.put.Goals as goal

pub put-requires : goal.put-requires
put-requires c =
    let a = c.args in
    subst (λ (k : List ℕ). Fits k c.new.result) (sym (c.new-key.ensures ∙ ap (λ (b : List ℕ). a.table ∷ b) c.from_vec.ensures))
    (subst (λ (r : List ℕ). Fits (a.table ∷ a.key.items) r) (sym (c.new.ensures ∙ c.from_vec-2.ensures)) c.requires)
