use Rattle.std.proofs.Common.{cond, Some, ◌∙◌}
use Rattle.std.specs.Prelude.{◌&&◌}
use Rattle.std.specs.BTreeMap as tree
use Rattle.reg_journal.specs.Changes.{is_same, points_to}
use Rattle.reg_plain.specs.Held.{spot_cmp, tag_at}
use Rattle.reg_plain.specs.InnerChanges.{is_spot, touched_where}
use Rattle.reg_plain.proofs.MapLaws.{spot_updated}
use Rattle.reg_plain.proofs.ChangeLaws.{tag_moved}
use Rattle.reg_plain.proofs.state.State.point_tag.Goals as goal

pub returns-clause-changed : goal.returns-clause-changed
returns-clause-changed c =
    let a = c.args in
    let name = c.in_ok-copy-2.ensures in
    let tag = c.in_ok-copy-3.ensures in
    tag_moved a.self.now a.name.now a.now a.tag.now a.digest.now c.insert.new.self c.touch_target.new.manifests
    (λ key. spot_updated a.self.now.tags c.insert.new.self (c.in_ok-copy-2.field-0, c.in_ok-copy-3.field-0) (Some a.digest.now) c.in_ok-old.ensures.updates key
    ∙ (λ i. cond (is_spot (name i, tag i) key) (Some a.digest.now) (tree.get spot_cmp a.self.now.tags key)))
    (λ key. c.touch_target.ensures key
    ∙ (λ i. touched_where (is_same (c.in_ok-of.ensures i) key.0 && points_to key.1 (c.in_ok-old.ensures.old i)) a.now (c.touch.ensures key i))
    ∙ (λ i. touched_where (is_same a.name.now key.0 && points_to key.1 (tag_at a.self.now (name i) (tag i))) a.now (touched_where (is_spot (c.in_ok-copy.ensures i, a.digest.now) key) a.now (tree.get spot_cmp a.self.now.manifests key))))
