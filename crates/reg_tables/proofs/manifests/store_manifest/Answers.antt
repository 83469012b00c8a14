use Rattle.std.proofs.Common.{◌∙◌, ◌∷◌, [], ap, List, ℕ, Some}
use Rattle.keeper_api.specs.Rows.{Rows, with_row}
use Rattle.reg_entries.specs.Documents.{KeptManifest}
use Rattle.reg_names.specs.declared.named.Named.{Named}
use Rattle.reg_journal.specs.Past.{Past}
use Rattle.reg_tables.specs.Derived.{with_past}
use Rattle.reg_tables.specs.InnerSteps.{with_lists, stored, touched_manifests}
use Rattle.reg_tables.specs.Keys.{manifest_key}
use Rattle.reg_tables.specs.Spelled.{manifest_spelled}
use Rattle.reg_tables.specs.declared.rows.ManifestRow.{ManifestRow}
use Rattle.reg_tables.proofs.StoreLaws.{put_step}
use Rattle.reg_tables.proofs.TouchLaws.{noted}
use Rattle.reg_tables.proofs.manifests.store_manifest.Goals as goal

pub returns-clause-step : goal.returns-clause-step
returns-clause-step g c tells past base h =
    let a = c.args in
    let rows = (g.K.Keeper.kept a.keeper.now).rows in
    let kind = c.doc.inside.kind in
    let size = c.doc.inside.size in
    let row : ManifestRow = record { kind = kind; size = size; touched = a.now } in
    let name = noted c.put_manifest.result _ c.in_ok-noting.ensures.ok c.put_manifest.ensures.name in
    let digest = noted c.put_manifest.result _ c.in_ok-noting.ensures.ok c.put_manifest.ensures.digest in
    let touched : Past = touched_manifests a.name.now (a.digest.now ∷ []) a.now past in
    let put =
    noted c.put_manifest.result _ c.in_ok-noting.ensures.ok c.put_manifest.ensures.rows rows
    ∙ ap (λ (r : Rows). with_row r (manifest_key a.name.now a.digest.now) (Some (manifest_spelled row))) (c.in_ok-take_manifest.ensures.step tells past base h)
    ∙ put_step past base a.name.now a.digest.now kind size name digest a.now in
    noted c.put_children.result _ c.in_ok-noting-3.ensures.ok c.put_children.ensures rows base touched kind size c.as_slice-named.result.now
    (noted c.put_all_named.result _ c.in_ok-noting-2.ensures.ok c.put_all_named.ensures rows base touched kind size put)
    ∙ ap (λ (named : List Named). with_past (with_lists a.name.now a.digest.now kind size named c.as_slice-children.result.now touched) base) c.as_slice-named.ensures
    ∙ ap (λ (children : List (List ℕ)). with_past (with_lists a.name.now a.digest.now kind size c.doc.inside.named children touched) base) c.as_slice-children.ensures
    ∙ ap (λ (doc : KeptManifest). with_past (stored a.name.now a.digest.now doc a.now past) base) c.doc.view_is
