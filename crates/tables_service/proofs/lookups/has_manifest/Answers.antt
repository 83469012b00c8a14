use Rattle.std.proofs.Common.{◌∙◌}
use Rattle.reg_tables.specs.Keys.{manifest_key}
use Rattle.reg_tables.specs.Spelled.{manifest_spelled}
use Rattle.tables_service.proofs.LookLaws.{has_found, manifest_told}
use Rattle.tables_service.proofs.lookups.has_manifest.Goals as goal

pub returns-clause-value : goal.returns-clause-value
returns-clause-value g c = λ journal t.
    let kept = g.K.Keeper.kept c.args.keeper.now in
    let name = c.args.name.now in
    let digest = c.args.digest.now in
    c.is_some.ensures ∙ has_found journal kept t manifest_spelled (manifest_key name digest) c.in_ok-found.found _ c.in_ok-found.ensures.value (manifest_told journal kept t name digest c.as_str-name.ensures.name c.raw-digest.ensures.digest)
