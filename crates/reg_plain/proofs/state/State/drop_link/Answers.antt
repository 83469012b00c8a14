use Rattle.std.proofs.Common.{cond, Some, None, refl, ap, ◌∙◌}
use Rattle.std.specs.BTreeMap as tree
use Rattle.reg_plain.specs.declared.state.Known.{Known}
use Rattle.reg_plain.specs.Held.{spot_cmp}
use Rattle.reg_plain.specs.InnerChanges.{is_spot}
use Rattle.reg_plain.proofs.MapLaws.{spot_updated}
use Rattle.reg_plain.proofs.KnownLaws.{unlink_moved}
use Rattle.reg_plain.proofs.state.State.drop_link.Goals as goal

pub returns-clause-changed : goal.returns-clause-changed
returns-clause-changed c =
    let a = c.args in
    let known = c.known-known.result in
    unlink_moved a.self.now c.learn.new.digests a.digest (record known { touched = Some a.now }) c.in_ok-learn.ensures.learnt a.name.now a.now c.remove.new.self
    (λ key. spot_updated a.self.now.links c.remove.new.self (c.in_ok-copy.field-0, a.digest) None c.remove.ensures.updates key
    ∙ (λ i. cond (is_spot (c.in_ok-copy.ensures i, a.digest) key) None (tree.get spot_cmp a.self.now.links key)))
    refl (ap (λ (k : Known). k.size) c.known-known.ensures) (ap (λ (k : Known). k.condemned) c.known-known.ensures)
