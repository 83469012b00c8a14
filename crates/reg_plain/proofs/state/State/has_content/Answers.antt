use Rattle.std.proofs.Common.{◌≡◌, List, ℕ, Some, None, false, sym, ap, ◌∙◌, rules, get_or, length, ◌<◌, take}
use Rattle.std.specs.Prelude.{Option, option_map, is_some, IsSome}
use Rattle.std.proofs.lemmas.Bool.{false≢true}
use Rattle.reg_names.specs.declared.named.Named.{Named}
use Rattle.reg_names.specs.Named.{AscendStrictly, has_digest, digests_of}
use Rattle.reg_plain.specs.declared.state.Standing.{Standing}
use Rattle.reg_plain.specs.Held.{held, link_at, standing_at}
use Rattle.reg_plain.proofs.LegalLaws.{one_named_holds, free_at, one_child_holds, is_child}
use Rattle.reg_plain.proofs.TouchLaws.{one_digest_more}
use Rattle.reg_plain.proofs.state.State.has_content.Goals as goal

pub returns-then-not-branch : goal.returns-then-not-branch
returns-then-not-branch c = λ entries h.
    let a = c.args in
    let i = c.loop-named.named-index in
    let n = c.named-item.result in
    let items : c.as_slice-named-items.result.now ≡ a.doc.now.named = search rules in
    let at : n ≡ get_or a.doc.now.named i n = c.named-item.is ∙ ap (λ (xs : List Named). get_or xs i n) items in
    let lt : i < length a.doc.now.named = search rules in
    let lacks : (n.free ≡ false → IsSome (link_at a.self.now a.name.now n.digest)) → ⊥ = search rules in
    let ascending : AscendStrictly (digests_of a.doc.now.named) = search rules in
    lacks (λ f. h.named n.digest (free_at a.doc.now.named ascending i n at lt ∙ ap Some f))

pub loop-named-preserved : goal.loop-named-preserved
loop-named-preserved c =
    let a = c.args in
    let i = c.loop-named.named-index in
    let n = c.named-item.result in
    let items : c.as_slice-named-items.result.now ≡ a.doc.now.named = search rules in
    let at : n ≡ get_or a.doc.now.named i n = c.named-item.is ∙ ap (λ (xs : List Named). get_or xs i n) items in
    let lt : i < length a.doc.now.named = search rules in
    let has : n.free ≡ false → IsSome (link_at a.self.now a.name.now n.digest) = search rules in
    one_named_holds (λ d. IsSome (link_at a.self.now a.name.now d)) a.doc.now.named i n at lt has c.loop-named.invariant

pub returns-then-is_none : goal.returns-then-is_none
returns-then-is_none c = λ entries h.
    let a = c.args in
    let i = c.loop-child.child-index in
    let d = c.child-item.result in
    let items : c.as_slice-child-items.result.now ≡ a.doc.now.children = search rules in
    let at : d ≡ get_or a.doc.now.children i d = c.child-item.is ∙ ap (λ (xs : List (List ℕ)). get_or xs i d) items in
    let lt : i < length a.doc.now.children = search rules in
    let lacks : standing_at a.self.now a.name.now d ≡ None = search rules in
    let has : IsSome ((held entries a.self.now).manifests a.name.now d) = h.children d (is_child a.doc.now.children i d at lt) in
    absurd (false≢true (sym (ap (λ (o : Option Standing). is_some (option_map (λ (m : Standing). m.doc) o)) lacks) ∙ has))

pub loop-child-preserved : goal.loop-child-preserved
loop-child-preserved c =
    let a = c.args in
    let i = c.loop-child.child-index in
    let d = c.child-item.result in
    let items : c.as_slice-child-items.result.now ≡ a.doc.now.children = search rules in
    let at : d ≡ get_or a.doc.now.children i d = c.child-item.is ∙ ap (λ (xs : List (List ℕ)). get_or xs i d) items in
    let lt : i < length a.doc.now.children = search rules in
    let has : IsSome (standing_at a.self.now a.name.now d) = search rules in
    λ q t. one_child_holds (λ x. IsSome (standing_at a.self.now a.name.now x)) (has_digest q (take i a.doc.now.children)) d q has (c.loop-child.invariant q) (sym (one_digest_more a.doc.now.children i d q at lt) ∙ t)
