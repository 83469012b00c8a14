use Rattle.std.proofs.Common.{cond, Some, ◌∙◌}
use Rattle.std.specs.BTreeMap as tree
use Rattle.reg_plain.specs.Held.{spot_cmp}
use Rattle.reg_plain.specs.InnerChanges.{is_spot}
use Rattle.reg_plain.proofs.MapLaws.{spot_updated}
use Rattle.reg_plain.proofs.ChangeLaws.{put_moved}
use Rattle.reg_plain.proofs.state.State.put_manifest.Goals as goal

pub returns-clause-changed : goal.returns-clause-changed
returns-clause-changed c =
    let a = c.args in
    put_moved a.self.now a.name.now a.now a.digest.now a.doc.now c.insert.new.self
    (λ key. spot_updated a.self.now.manifests c.insert.new.self (c.in_ok-copy.field-0, a.digest.now) (Some (record { doc = c.in_ok-doc.doc; touched = a.now })) c.in_ok-insert.ensures.updates key
    ∙ (λ i. cond (is_spot (c.in_ok-copy.ensures i, a.digest.now) key) (Some (record { doc = c.in_ok-doc.ensures i; touched = a.now })) (tree.get spot_cmp a.self.now.manifests key)))
