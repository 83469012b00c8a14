use Rattle.std.proofs.Common.{◌∙◌, ◌∷◌, [], ap, sym, subst}
use Rattle.std.specs.Prelude.{IsTrue}
use Rattle.keeper_api.specs.Rows.{Rows, Kept}
use Rattle.reg_journal.specs.Past.{Past}
use Rattle.reg_tables.specs.Derived.{with_past, row_of}
use Rattle.reg_tables.specs.InnerPending.{Works}
use Rattle.reg_tables.specs.InnerSteps.{touched_manifests}
use Rattle.reg_tables.specs.Items.{Item}
use Rattle.reg_tables.specs.Keys.{tag_key}
use Rattle.reg_tables.proofs.EntryLaws.{target_some, target_none}
use Rattle.reg_tables.proofs.ItemLaws.{tag_key_own}
use Rattle.reg_tables.proofs.entries.touch_target.Goals as goal

pub returns-in_ok-touch_manifest-in-Some-clause-step : goal.returns-in_ok-touch_manifest-in-Some-clause-step
returns-in_ok-touch_manifest-in-Some-clause-step g c tells past base h =
    let a = c.args in
    let key = tag_key a.name.now a.tag.now in
    let one = c.in-Some.digest in
    let step = subst (λ (k : Kept). IsTrue k.tells → Works k.rows a.pending.now c.touch_manifest.new.pending (touched_manifests a.name.now (one ∷ []) a.now) (λ r. r)) c.in_ok-digest.ensures.reads.reads.held_stays c.in_ok-touch_manifest-in-Some.ensures.step in
    let target = sym c.in-Some.is ∙ c.in_ok-digest.ensures.value tells ∙ ap (λ (r : Rows). r key) h ∙ ap (λ (i : Item). row_of past i (base key)) (tag_key_own a.name.now a.tag.now c.in_ok-digest.ensures.name c.in_ok-digest.ensures.tag) in
    step tells past base h ∙ ap (λ (p : Past). with_past p base) (target_some past a.name.now a.tag.now one a.now target)

pub returns-in-None-clause-step : goal.returns-in-None-clause-step
returns-in-None-clause-step g c tells past base h =
    let a = c.args in
    let key = tag_key a.name.now a.tag.now in
    let target = sym c.in-None.is ∙ c.in_ok-digest.ensures.value tells ∙ ap (λ (r : Rows). r key) h ∙ ap (λ (i : Item). row_of past i (base key)) (tag_key_own a.name.now a.tag.now c.in_ok-digest.ensures.name c.in_ok-digest.ensures.tag) in
    h ∙ ap (λ (p : Past). with_past p base) (target_none past a.name.now a.tag.now a.now target)
