use Rattle.std.proofs.Common.{◌∙◌, ◌∷◌, ◌++◌, [], append_assoc, ap, sym, List, Some}
use Rattle.keeper_api.specs.Rows.{Rows, with_row}
use Rattle.reg_names.specs.declared.named.Named.{Named}
use Rattle.reg_journal.specs.Spelling.{free_field}
use Rattle.reg_tables.specs.Derived.{with_past}
use Rattle.reg_tables.specs.InnerSteps.{with_lists}
use Rattle.reg_tables.specs.Keys.{named_key}
use Rattle.reg_tables.proofs.StoreLaws.{all_done, named_step}
use Rattle.reg_tables.proofs.manifests.put_all_named.Goals as goal

pub loop-named-preserved : goal.loop-named-preserved
loop-named-preserved c =
    let a = c.args in
    let held = c.loop-named.invariant in
    let item = c.in-Some.named.now in
    let put = c.in_ok-put_named.ensures in (
      item ∷ held.0,
      held.1 ∙ ap (λ (left : List Named). left ++ held.0) c.in-Some.ensures.steps ∙ append_assoc c.next.new.self.iter.rest.now (item ∷ []) held.0,
      λ rows base past kind size h.
          put.rows rows
          ∙ ap (λ (r : Rows). with_row r (named_key a.name.now a.manifest.now item.digest) (Some (free_field item.free))) (held.2 rows base past kind size h)
          ∙ named_step past base a.name.now a.manifest.now kind size put.name put.manifest item held.0 [] put.digest,
    )

pub returns : goal.returns
returns c rows base past kind size h =
    let a = c.args in
    let held = c.loop-named.invariant in
    held.2 rows base past kind size h
    ∙ ap (λ (named : List Named). with_past (with_lists a.name.now a.manifest.now kind size named [] past) base)
    (sym (all_done a.named.now c.loop-named.named-iterator.iter.rest.now held.0 c.in-None.ensures.steps.0 held.1))
