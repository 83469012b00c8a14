use Rattle.std.proofs.Common.{cond, Some, ap, ◌∙◌}
use Rattle.std.specs.BTreeMap as tree
use Rattle.reg_journal.specs.Changes.{link_of}
use Rattle.reg_plain.specs.declared.state.Known.{Known}
use Rattle.reg_plain.specs.Held.{spot_cmp}
use Rattle.reg_plain.specs.InnerChanges.{is_spot}
use Rattle.reg_plain.proofs.MapLaws.{spot_updated}
use Rattle.reg_plain.proofs.KnownLaws.{linked_moved}
use Rattle.reg_plain.proofs.state.State.put_link.Goals as goal

pub returns-clause-changed : goal.returns-clause-changed
returns-clause-changed c =
    let a = c.args in
    let name = c.in_ok-copy.ensures in
    let known = c.brought-known.ensures in
    linked_moved a.self.now a.name.now a.digest a.size a.now c.note.new.digests c.learn.new.digests c.brought-known.result c.insert.new.self c.in_ok-note.ensures.same
    (λ key. spot_updated a.self.now.links c.insert.new.self (c.in_ok-copy.field-0, a.digest) (Some (link_of a.size a.now)) c.in_ok-insert.ensures.updates key
    ∙ (λ i. cond (is_spot (name i, a.digest) key) (Some (link_of a.size a.now)) (tree.get spot_cmp a.self.now.links key)))
    c.in-Ok.ensures.learnt (ap (λ (k : Known). k.touched) known) (ap (λ (k : Known). k.size) known) (ap (λ (k : Known). k.condemned) known ∙ ap (λ (k : Known). k.condemned) c.known.ensures)
