use Rattle.std.proofs.Common.{◌≡◌, ℕ, List, ◌∷◌, drop, ap, sym, ◌∙◌}
use Rattle.std.proofs.lemmas.Bool.Decides.{Decides-eqb}
use Rattle.std.proofs.lemmas.Slice.Eq.{strip_prefix_is}
use Rattle.reg_tables.proofs.NextLaws.{match_turned}
use Rattle.reg_tables.proofs.next.behind.Goals as goal

pub returns : goal.returns
returns c =
    let a = c.args in
    let bytes = c.parts-at.result.1.now in
    let whole : a.key.now ≡ a.table ∷ bytes = c.parts-at.ensures ∙ ap (λ (t : ℕ). t ∷ bytes) c.if-at-table.false in
    match_turned c.strip_prefix.result _ _ _ _
    (λ none rest is. none rest (ap (drop 1) (sym whole ∙ is)))
    (λ x is. whole ∙ ap (λ (t : List ℕ). a.table ∷ t) is)
    (strip_prefix_is Decides-eqb bytes a.front.now c.strip_prefix.result c.strip_prefix.ensures.cases)
