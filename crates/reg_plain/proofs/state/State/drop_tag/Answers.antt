use Rattle.std.proofs.Common.{cond, None, ◌∙◌}
use Rattle.std.specs.Prelude.{◌&&◌}
use Rattle.std.specs.BTreeMap as tree
use Rattle.reg_journal.specs.Changes.{is_same, points_to}
use Rattle.reg_plain.specs.Held.{spot_cmp, tag_at}
use Rattle.reg_plain.specs.InnerChanges.{is_spot, touched_where}
use Rattle.reg_plain.proofs.MapLaws.{spot_updated}
use Rattle.reg_plain.proofs.ChangeLaws.{untag_moved}
use Rattle.reg_plain.proofs.state.State.drop_tag.Goals as goal

pub returns-clause-changed : goal.returns-clause-changed
returns-clause-changed c =
    let a = c.args in
    let name = c.in_ok-copy.ensures in
    let tag = c.in_ok-copy-2.ensures in
    untag_moved a.self.now a.name.now a.now a.tag.now c.remove-old.new.self c.touch_target.new.manifests
    (λ key. spot_updated a.self.now.tags c.remove-old.new.self (c.in_ok-copy.field-0, c.in_ok-copy-2.field-0) None c.remove-old.ensures.updates key
    ∙ (λ i. cond (is_spot (name i, tag i) key) None (tree.get spot_cmp a.self.now.tags key)))
    (λ key. c.touch_target.ensures key
    ∙ (λ i. touched_where (is_same (c.in_ok-of.ensures i) key.0 && points_to key.1 (c.remove-old.ensures.value i)) a.now (tree.get spot_cmp a.self.now.manifests key))
    ∙ (λ i. touched_where (is_same a.name.now key.0 && points_to key.1 (tag_at a.self.now (name i) (tag i))) a.now (tree.get spot_cmp a.self.now.manifests key)))
