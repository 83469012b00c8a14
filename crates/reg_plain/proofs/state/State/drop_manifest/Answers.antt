use Rattle.std.proofs.Common.{◌≡◌, cond, Some, None, sym, ap, subst, ◌∙◌, rules}
use Rattle.std.specs.Prelude.{◌&&◌, IsTrue}
use Rattle.std.specs.BTreeMap as tree
use Rattle.std.specs.Ordering.{nat_cmp}
use Rattle.std.specs.Cmp.Lexicographic.{slice_cmp}
use Rattle.std.proofs.lemmas.Option.{same_Some}
use Rattle.reg_names.specs.Named.{has_digest, digests_of}
use Rattle.reg_journal.specs.Changes.{is_same}
use Rattle.reg_plain.specs.declared.state.Standing.{Standing}
use Rattle.reg_plain.specs.Held.{spot_cmp, standing_at}
use Rattle.reg_plain.specs.InnerChanges.{is_spot, touched_where, known_where}
use Rattle.reg_plain.proofs.MapLaws.{spot_updated}
use Rattle.reg_plain.proofs.ChangeLaws.{absent_moved, gone_moved, known_after}
use Rattle.reg_plain.proofs.state.State.drop_manifest.Goals as goal

pub returns-in_default-clause-changed : goal.returns-in_default-clause-changed
returns-in_default-clause-changed c =
    let a = c.args in
    let got : standing_at a.self.now c.in_ok-copy.field-0 a.digest.now ≡ None = search rules in
    absent_moved a.self.now a.name.now a.digest.now a.now (ap (λ n. standing_at a.self.now n a.digest.now) (sym c.in_ok-copy.ensures) ∙ got)

pub returns-clause-changed : goal.returns-clause-changed
returns-clause-changed c =
    let a = c.args in
    let name = c.in_ok-copy.ensures in
    let s = c.in-Some-remove.gone in
    let got : standing_at a.self.now c.in_ok-copy.field-0 a.digest.now ≡ Some s = search rules in
    let found : standing_at a.self.now c.in_ok-copy.field-0 a.digest.now ≡ Some c.in-Some.standing.now = search rules in
    let one : c.in-Some.standing.now ≡ s = same_Some c.in-Some.standing.now s (sym found ∙ got) in
    let listed : c.as_slice-2.result.now ≡ s.doc.children = search rules in
    let first : c.as_slice.result.now ≡ c.in-Some.standing.now.doc.named = search rules in
    let noted : c.as_slice.result.now ≡ s.doc.named = first ∙ ap (λ (m : Standing). m.doc.named) one in
    let named : c.as_slice-3.result.now ≡ s.doc.named = search rules in
    gone_moved a.self.now a.name.now a.digest.now a.now s c.touch_all.new.manifests c.touch_digests.new.digests (ap (λ n. standing_at a.self.now n a.digest.now) (sym name) ∙ got)
    (λ key. c.touch_all.ensures key
    ∙ (λ i. touched_where (is_same (name i) key.0 && has_digest key.1 (listed i)) a.now (spot_updated a.self.now.manifests c.remove.new.self (c.in_ok-copy.field-0, a.digest.now) None c.remove.ensures.updates key i))
    ∙ (λ i. touched_where (is_same a.name.now key.0 && has_digest key.1 s.doc.children) a.now (cond (is_spot (name i, a.digest.now) key) None (tree.get spot_cmp a.self.now.manifests key))))
    (known_after c.touch_digests.new.digests c.note_all.new.digests a.self.now.digests s.doc.named a.now
    (λ q. c.touch_digests.ensures q ∙ ap (λ ns. known_where (has_digest q (digests_of ns)) a.now (tree.get (slice_cmp nat_cmp) c.note_all.new.digests q)) named)
    (λ q t. c.in_ok-note_all.ensures.noted q (subst (λ ns. IsTrue (has_digest q (digests_of ns))) (sym noted) t))
    c.in_ok-note_all.ensures.same)
