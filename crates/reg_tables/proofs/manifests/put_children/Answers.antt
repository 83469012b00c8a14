use Rattle.std.proofs.Common.{◌∙◌, ◌∷◌, ◌++◌, [], append_assoc, ap, sym, List, ℕ, Some}
use Rattle.keeper_api.specs.Rows.{Rows, with_row}
use Rattle.reg_tables.specs.Derived.{with_past}
use Rattle.reg_tables.specs.InnerSteps.{with_lists}
use Rattle.reg_tables.specs.Keys.{child_key}
use Rattle.reg_tables.proofs.StoreLaws.{all_done, child_step}
use Rattle.reg_tables.proofs.manifests.put_children.Goals as goal

pub loop-child-preserved : goal.loop-child-preserved
loop-child-preserved c =
    let a = c.args in
    let held = c.loop-child.invariant in
    let item = c.in-Some.child.now in
    let put = c.in_ok-put_child.ensures in (
      item ∷ held.0,
      held.1 ∙ ap (λ (left : List (List ℕ)). left ++ held.0) c.in-Some.ensures.steps ∙ append_assoc c.next.new.self.iter.rest.now (item ∷ []) held.0,
      λ rows base past kind size named h.
          put.rows rows
          ∙ ap (λ (r : Rows). with_row r (child_key a.name.now a.parent.now item) (Some [])) (held.2 rows base past kind size named h)
          ∙ child_step past base a.name.now a.parent.now kind size put.name put.parent named item held.0 put.digest,
    )

pub returns : goal.returns
returns c rows base past kind size named h =
    let a = c.args in
    let held = c.loop-child.invariant in
    held.2 rows base past kind size named h
    ∙ ap (λ (children : List (List ℕ)). with_past (with_lists a.name.now a.parent.now kind size named children past) base)
    (sym (all_done a.children.now c.loop-child.child-iterator.iter.rest.now held.0 c.in-None.ensures.steps.0 held.1))
