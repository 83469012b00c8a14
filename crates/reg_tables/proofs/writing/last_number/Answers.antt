use Rattle.std.proofs.Common.{◌≡◌, ◌∙◌, sym, ap, subst, arith}
use Rattle.std.specs.Prelude.{IfOk}
use Rattle.keeper_api.specs.Rows.{Rows}
use Rattle.reg_tables.specs.Keys.{last_number_key}
use Rattle.reg_tables.proofs.WriteLaws.{last_found, none_found}
use Rattle.reg_tables.proofs.writing.last_number.Goals as goal

pub returns-in-Some-clause-value : goal.returns-in-Some-clause-value
returns-in-Some-clause-value g c tells journal derived =
    let rows : Rows = (g.K.Keeper.kept c.args.keeper.now).rows in
    let key : c.in_ok-key.key ≡ last_number_key = subst (λ r. IfOk r (λ k. k ≡ last_number_key)) c.in_ok-key.ensures.ok c.last_number_key.ensures in
    last_found journal rows c.in-Some.row c.number_of.result (omega (arith, c.number_of.auto, c.number_of.type_inv)) (c.number_of.ensures ∙ c.as_slice.ensures)
    (sym c.in-Some.is ∙ c.in_ok-row.ensures.value tells ∙ ap rows key) derived

pub returns-clause-value : goal.returns-clause-value
returns-clause-value g c tells journal derived =
    let rows : Rows = (g.K.Keeper.kept c.args.keeper.now).rows in
    let key : c.in_ok-key.key ≡ last_number_key = subst (λ r. IfOk r (λ k. k ≡ last_number_key)) c.in_ok-key.ensures.ok c.last_number_key.ensures in
    none_found journal rows (sym c.in-None.is ∙ c.in_ok-row.ensures.value tells ∙ ap rows key) derived
