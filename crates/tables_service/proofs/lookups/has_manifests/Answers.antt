use Rattle.std.proofs.Common.{rules, List, ℕ, Some, None, is_some, sym, ap, ◌∙◌}
use Rattle.reg_names.specs.Digests.{IsDigest}
use Rattle.reg_tables.specs.declared.rows.ManifestRow.{ManifestRow}
use Rattle.reg_tables.specs.Keys.{manifest_key}
use Rattle.reg_tables.specs.Nexts.{IsNextAt}
use Rattle.reg_tables.specs.Spelled.{manifest_spelled}
use Rattle.tables_service.proofs.LookLaws.{manifest_told, no_manifests}
use Rattle.tables_service.proofs.lookups.has_manifests.Goals as goal

pub returns-in-Some-clause-value : goal.returns-in-Some-clause-value
returns-in-Some-clause-value g c = λ journal t.
    let kept = g.K.Keeper.kept c.args.keeper.now in
    let name = c.args.name.now in
    let next : IsNextAt {A = List ℕ × ManifestRow} IsDigest (λ digest. manifest_key name digest) (λ x. x.0) (λ x. manifest_spelled x.1) None kept.rows (Some (c.in-Some.digest, c.in-Some.field-0-1)) = rw c.in-Some.is at (c.in_ok-digest.ensures.value t.tells) in
    let digest_is : IsDigest c.in-Some.digest = search rules in
    (c.in-Some.digest, sym (manifest_told journal kept t name c.in-Some.digest c.as_str-name.ensures.name digest_is) ∙ ap is_some next.1)

pub returns-in-None-clause-value : goal.returns-in-None-clause-value
returns-in-None-clause-value g c = λ journal t.
    let kept = g.K.Keeper.kept c.args.keeper.now in
    let name = c.args.name.now in
    let next : IsNextAt {A = List ℕ × ManifestRow} IsDigest (λ digest. manifest_key name digest) (λ x. x.0) (λ x. manifest_spelled x.1) None kept.rows None = rw c.in-None.is at (c.in_ok-digest.ensures.value t.tells) in
    no_manifests journal kept t name c.as_str-name.ensures.name next
