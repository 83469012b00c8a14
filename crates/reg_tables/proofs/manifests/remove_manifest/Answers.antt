use Rattle.std.proofs.Common.{◌≡◌, ◌∙◌, ◌∷◌, ◌++◌, refl, ap, sym, subst, List, ℕ, None}
use Rattle.std.specs.List.{AllByRecursion}
use Rattle.std.specs.Prelude.{IfOk, IsTrue}
use Rattle.keeper_api.specs.Fields.{ended}
use Rattle.keeper_api.specs.Rows.{Rows, Kept}
use Rattle.reg_names.specs.Digests.{IsDigest}
use Rattle.reg_journal.specs.Changes.{with_manifest}
use Rattle.reg_tables.specs.Derived.{with_past}
use Rattle.reg_tables.specs.InnerPending.{Works, ArePartsBehind, MayStandBehind}
use Rattle.reg_tables.specs.InnerSteps.{touched_manifests, touched_blobs}
use Rattle.reg_tables.proofs.RemovedLaws.{gathered, child_digests, named_digests, removed_step}
use Rattle.reg_tables.proofs.TouchLaws.{noted}
use Rattle.reg_tables.proofs.manifests.remove_manifest.Goals as goal

pub touch_children-requires : goal.touch_children-requires
touch_children-requires g c =
    let a = c.args in
    let spot = ended a.name.now ++ a.digest.now in
    let front : c.in_ok-front.front.items ≡ spot = subst (λ r. IfOk r (λ b. b.items ≡ spot)) c.in_ok-front.ensures.ok c.spot_part.ensures.part in
    let name = noted c.spot_part.result _ c.in_ok-front.ensures.ok c.spot_part.ensures.name in
    let digest = noted c.spot_part.result _ c.in_ok-front.ensures.ok c.spot_part.ensures.digest in
    subst (AllByRecursion IsDigest) (sym c.deref-5.ensures.value)
    (child_digests a.name.now a.digest.now c.in_ok-children.children.items name digest
    (subst (λ (f : List ℕ). MayStandBehind (6 ∷ f) c.in_ok-children.children.items) (c.deref-2.ensures.value ∙ front) c.in_ok-children.ensures.stand))

pub touch_named-requires : goal.touch_named-requires
touch_named-requires g c =
    let a = c.args in
    let spot = ended a.name.now ++ a.digest.now in
    let front : c.in_ok-front.front.items ≡ spot = subst (λ r. IfOk r (λ b. b.items ≡ spot)) c.in_ok-front.ensures.ok c.spot_part.ensures.part in
    let name = noted c.spot_part.result _ c.in_ok-front.ensures.ok c.spot_part.ensures.name in
    let digest = noted c.spot_part.result _ c.in_ok-front.ensures.ok c.spot_part.ensures.digest in
    subst (AllByRecursion IsDigest) (sym c.deref-6.ensures.value)
    (named_digests a.name.now a.digest.now c.in_ok-named.named.items name digest
    (subst (λ (f : List ℕ). MayStandBehind (5 ∷ f) c.in_ok-named.named.items) (c.deref.ensures.value ∙ front) c.in_ok-named.ensures.stand))

pub returns-clause-step : goal.returns-clause-step
returns-clause-step g c tells past base h =
    let a = c.args in
    let kept = g.K.Keeper.kept in
    let spot = ended a.name.now ++ a.digest.now in
    let named = c.in_ok-named.named.items in
    let children = c.in_ok-children.children.items in
    let front : c.in_ok-front.front.items ≡ spot = subst (λ r. IfOk r (λ b. b.items ≡ spot)) c.in_ok-front.ensures.ok c.spot_part.ensures.part in
    let name = noted c.spot_part.result _ c.in_ok-front.ensures.ok c.spot_part.ensures.name in
    let digest = noted c.spot_part.result _ c.in_ok-front.ensures.ok c.spot_part.ensures.digest in
    let first = c.in_ok-named.ensures.reads.reads.held_stays in
    let second : kept c.gather-2.new.keeper ≡ kept a.keeper.now = c.in_ok-children.ensures.reads.reads.held_stays ∙ first in
    let third : kept c.touch_children.new.keeper ≡ kept a.keeper.now = c.in_ok-touch_children.ensures.reads.reads.held_stays ∙ second in
    let named_found = gathered 5 a.pending.now named c.deref-3.result.now c.deref.result.now spot (kept a.keeper.now) (kept a.keeper.now) (c.deref.ensures.value ∙ front) refl c.deref-3.ensures.value c.in_ok-named.ensures.parts tells in
    let children_found = gathered 6 a.pending.now children c.deref-4.result.now c.deref-2.result.now spot (kept a.keeper.now) (kept c.gather.new.keeper) (c.deref-2.ensures.value ∙ front) first c.deref-4.ensures.value c.in_ok-children.ensures.parts tells in
    let gone = with_manifest a.name.now a.digest.now None past in
    let dropped = noted c.drop_manifest.result _ c.in_ok-noting.ensures.ok c.drop_manifest.ensures past base (kept a.keeper.now).rows h named_found children_found in
    let listed = subst (λ (k : Kept). IsTrue k.tells → Works k.rows c.drop_manifest.new.pending c.touch_children.new.pending (touched_manifests a.name.now c.deref-5.result.now a.now) (λ r. r)) second c.in_ok-touch_children.ensures.step in
    let has = subst (λ (k : Kept). IsTrue k.tells → Works k.rows c.touch_children.new.pending c.touch_named.new.pending (touched_blobs c.deref-6.result.now a.now) (λ r. r)) third c.in_ok-touch_named.ensures.step in
    let children_stay : c.deref-5.result.now ≡ c.deref-4.result.now = c.deref-5.ensures.value ∙ sym c.deref-4.ensures.value in
    let named_stay : c.deref-6.result.now ≡ c.deref-3.result.now = c.deref-6.ensures.value ∙ sym c.deref-3.ensures.value in
    has tells (touched_manifests a.name.now c.deref-5.result.now a.now gone) base (listed tells gone base dropped)
    ∙ ap (λ (ds : List (List ℕ)). with_past (touched_blobs c.deref-6.result.now a.now (touched_manifests a.name.now ds a.now gone)) base) children_stay
    ∙ ap (λ (ds : List (List ℕ)). with_past (touched_blobs ds a.now (touched_manifests a.name.now c.deref-4.result.now a.now gone)) base) named_stay
    ∙ removed_step past base a.name.now a.digest.now a.now c.deref-3.result.now c.deref-4.result.now name digest
    (subst (λ (r : Rows). ArePartsBehind (5 ∷ spot) None r c.deref-3.result.now) h named_found)
    (subst (λ (r : Rows). ArePartsBehind (6 ∷ spot) None r c.deref-4.result.now) h children_found)
