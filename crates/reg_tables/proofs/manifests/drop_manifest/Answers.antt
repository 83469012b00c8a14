use Rattle.std.proofs.Common.{◌∙◌, ◌∷◌, ◌++◌, ap, subst, List, ℕ, None}
use Rattle.keeper_api.specs.Changes.{after}
use Rattle.keeper_api.specs.Fields.{ended}
use Rattle.keeper_api.specs.Rows.{Rows, with_row}
use Rattle.reg_tables.specs.InnerPending.{ArePartsBehind, without_parts}
use Rattle.reg_tables.specs.Keys.{manifest_key}
use Rattle.reg_tables.proofs.RemoveLaws.{remove_step}
use Rattle.reg_tables.proofs.manifests.drop_manifest.Goals as goal

pub returns : goal.returns
returns c past base rows h named_found children_found =
    let a = c.args in
    let spot = ended a.name.now ++ a.digest.now in
    let front = c.in_ok-front.ensures.part in
    let named = c.deref.ensures.value ∙ front in
    let listed = c.deref-2.ensures.value ∙ front in
    c.in_ok-drop_spot.ensures.rows rows
    ∙ ap (λ (r : Rows). with_row r (manifest_key a.name.now a.digest.now) None)
    (c.in_ok-drop_all-2.ensures rows
    ∙ ap (λ (f : List ℕ). without_parts (6 ∷ f) a.children.now (after rows c.drop_all.new.pending)) listed
    ∙ ap (without_parts (6 ∷ spot) a.children.now)
    (c.in_ok-drop_all.ensures rows
    ∙ ap (λ (f : List ℕ). without_parts (5 ∷ f) a.named.now (after rows a.pending.now)) named
    ∙ ap (without_parts (5 ∷ spot) a.named.now) h))
    ∙ remove_step past base a.name.now a.digest.now a.named.now a.children.now c.in_ok-drop_spot.ensures.name c.in_ok-drop_spot.ensures.digest
    (subst (λ (r : Rows). ArePartsBehind (5 ∷ spot) None r a.named.now) h named_found)
    (subst (λ (r : Rows). ArePartsBehind (6 ∷ spot) None r a.children.now) h children_found)
