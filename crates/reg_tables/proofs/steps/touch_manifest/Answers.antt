use Rattle.std.proofs.Common.{◌∙◌, ap, sym, refl}
use Rattle.std.specs.Option.{option_map}
use Rattle.keeper_api.specs.Changes.{after}
use Rattle.reg_tables.specs.Spelled.{manifest_spelled}
use Rattle.reg_tables.proofs.TouchLaws.{touched_some, touched_none, noted}
use Rattle.reg_tables.proofs.steps.touch_manifest.Goals as goal

pub returns-in_ok-noting-in-Some-clause-step : goal.returns-in_ok-noting-in-Some-clause-step
returns-in_ok-noting-in-Some-clause-step g c tells past base h =
    let a = c.args in
    let rows = (g.K.Keeper.kept a.keeper.now).rows in
    let row = c.in-Some.row in
    touched_some (after rows a.pending.now) (after rows c.put_manifest.new.pending) base past a.name.now a.digest.now a.now c.in_ok-row.ensures.name c.in_ok-row.ensures.digest h
    (manifest_spelled row) row (ap (option_map manifest_spelled) (sym c.in-Some.is) ∙ c.in_ok-row.ensures.value tells) refl
    (noted c.put_manifest.result _ c.in_ok-noting-in-Some.ensures.ok c.put_manifest.ensures.rows rows)

pub returns-in-None-clause-step : goal.returns-in-None-clause-step
returns-in-None-clause-step g c tells past base h =
    let a = c.args in
    let rows = (g.K.Keeper.kept a.keeper.now).rows in
    touched_none (after rows a.pending.now) (after rows a.pending.now) base past a.name.now a.digest.now a.now c.in_ok-row.ensures.name c.in_ok-row.ensures.digest h
    (ap (option_map manifest_spelled) (sym c.in-None.is) ∙ c.in_ok-row.ensures.value tells)
