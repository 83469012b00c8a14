use Rattle.std.proofs.Common.{◌≡◌, ◌∙◌, ◌∷◌, ap, subst, List, ℕ, Some}
use Rattle.std.specs.Prelude.{IfOk}
use Rattle.keeper_api.specs.Changes.{after}
use Rattle.keeper_api.specs.Fields.{ended}
use Rattle.keeper_api.specs.Rows.{Rows}
use Rattle.reg_tables.specs.InnerPending.{ArePartsBehind, without_parts}
use Rattle.reg_tables.proofs.TouchLaws.{noted}
use Rattle.reg_tables.proofs.UntagLaws.{untag_step}
use Rattle.reg_tables.proofs.manifests.untag.Goals as goal

pub returns-clause-step : goal.returns-clause-step
returns-clause-step g c tells past base h =
    let a = c.args in
    let rows = (g.K.Keeper.kept a.keeper.now).rows in
    let tags = c.in_ok-tags.tags.items in
    let front : c.in_ok-front.front.items ≡ ended a.name.now = subst (λ r. IfOk r (λ b. b.items ≡ ended a.name.now)) c.in_ok-front.ensures.ok c.name_part.ensures.part in
    let target : c.in_ok-target.target.items ≡ a.digest.now = subst (λ r. IfOk r (λ b. b.items ≡ a.digest.now)) c.in_ok-target.ensures.ok c.digest_bytes.ensures in
    let name_is = noted c.name_part.result _ c.in_ok-front.ensures.ok c.name_part.ensures.name in
    let named = c.deref.ensures.value ∙ front in
    let asked = c.deref-2.ensures.value ∙ target in
    let parts : ArePartsBehind (4 ∷ ended a.name.now) (Some a.digest.now) (after rows a.pending.now) tags =
    subst (λ (f : List ℕ). ArePartsBehind (4 ∷ f) (Some a.digest.now) (after rows a.pending.now) tags) named
    (subst (λ (d : List ℕ). ArePartsBehind (4 ∷ c.deref.result.now) (Some d) (after rows a.pending.now) tags) asked (c.in_ok-tags.ensures.parts tells)) in
    noted c.drop_all.result _ c.in_ok-noting.ensures.ok c.drop_all.ensures rows
    ∙ ap (λ (f : List ℕ). without_parts (4 ∷ f) c.deref-4.result.now (after rows a.pending.now)) (c.deref-3.ensures.value ∙ front)
    ∙ ap (λ (ps : List (List ℕ)). without_parts (4 ∷ ended a.name.now) ps (after rows a.pending.now)) c.deref-4.ensures.value
    ∙ ap (without_parts (4 ∷ ended a.name.now) tags) h
    ∙ untag_step past base a.name.now a.digest.now tags name_is (subst (λ (r : Rows). ArePartsBehind (4 ∷ ended a.name.now) (Some a.digest.now) r tags) h parts)
