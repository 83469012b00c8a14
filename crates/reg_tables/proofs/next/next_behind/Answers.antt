use Rattle.std.proofs.Common.{◌≡◌, ℕ, List, ◌∷◌, ◌++◌, Some, None, ap, sym, ◌∙◌}
use Rattle.keeper_api.specs.Rows.{IsNextRow}
use Rattle.reg_tables.proofs.NextLaws.{none_behind, passed_behind, found_behind}
use Rattle.reg_tables.proofs.next.next_behind.Goals as goal

pub returns-in-Some-behind-clause-value : goal.returns-in-Some-behind-clause-value
returns-in-Some-behind-clause-value g c told =
    let a = c.args in
    let rows = (g.K.Keeper.kept a.keeper.now).rows in
    let from : c.in_ok-from.from ≡ a.table ∷ (a.front.now ++ a.bound.now) = rw c.in_ok-from.ensures.ok at c.longer.ensures in
    let next : IsNextRow (a.table ∷ (a.front.now ++ a.bound.now)) rows (Some (c.in-Some.key, c.in-Some.row)) = rw (from, c.in-Some.is) at (c.in_ok-key.ensures.value told) in
    let part : c.in_ok-noting-in-Some-behind.field-0 ≡ c.in-Some-behind.rest.now = rw c.in_ok-noting-in-Some-behind.ensures.ok at c.from_slice.ensures in
    found_behind a.table a.front.now a.bound.now rows c.in-Some.key c.in-Some.row c.in_ok-noting-in-Some-behind.field-0 next
    (c.in-Some-behind.ensures ∙ ap (λ (t : List ℕ). a.table ∷ (a.front.now ++ t)) (sym part))

pub returns-in-Some-clause-value : goal.returns-in-Some-clause-value
returns-in-Some-clause-value g c told =
    let a = c.args in
    let rows = (g.K.Keeper.kept a.keeper.now).rows in
    let from : c.in_ok-from.from ≡ a.table ∷ (a.front.now ++ a.bound.now) = rw c.in_ok-from.ensures.ok at c.longer.ensures in
    let next : IsNextRow (a.table ∷ (a.front.now ++ a.bound.now)) rows (Some (c.in-Some.key, c.in-Some.row)) = rw (from, c.in-Some.is) at (c.in_ok-key.ensures.value told) in
    passed_behind a.table a.front.now a.bound.now rows c.in-Some.key c.in-Some.row next c.in-None-behind.ensures

pub returns-clause-value : goal.returns-clause-value
returns-clause-value g c told =
    let a = c.args in
    let rows = (g.K.Keeper.kept a.keeper.now).rows in
    let from : c.in_ok-from.from ≡ a.table ∷ (a.front.now ++ a.bound.now) = rw c.in_ok-from.ensures.ok at c.longer.ensures in
    let next : IsNextRow (a.table ∷ (a.front.now ++ a.bound.now)) rows None = rw (from, c.in-None.is) at (c.in_ok-key.ensures.value told) in
    none_behind a.table a.front.now a.bound.now rows next
