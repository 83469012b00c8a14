use Rattle.std.proofs.Common.{◌≡◌, ℕ, ◌≤◌, ◌++◌, ◌∷◌, List, Some, None, true, length, map, refl, sym, ap, subst, ◌∙◌, rules}
use Rattle.std.specs.Prelude.{IfSome, option_copied}
use Rattle.std.specs.List.Sorted.{IsStrictlySortedBy}
use Rattle.std.specs.Map.{keys_of, lookup}
use Rattle.std.specs.Map.Iter.{deref_pair}
use Rattle.std.proofs.lemmas.Map.Iter.{rest_so_far, rest_more, iter_end}
use Rattle.reg_entries.specs.Listing.{AreNextTags, IsNextTag, last_of}
use Rattle.reg_plain.specs.Held.{spot_cmp}
use Rattle.reg_plain.specs.Answers.{shown_by}
use Rattle.reg_plain.specs.InnerAnswers.{is_asked, tags_asked}
use Rattle.reg_plain.proofs.MapLaws.{at}
use Rattle.reg_plain.proofs.ListLaws.{lists_all, lists_cut, is_whole, is_cut, none_asked}
use Rattle.reg_plain.proofs.state.State.listing.Goals as goal

pub returns-then-eq : goal.returns-then-eq
returns-then-eq c =
    let a = c.args in
    none_asked (shown_by a.self.now) a.name.now (option_copied a.last) a.n c.from_vec.result (search rules) (search rules)

pub returns-then-is_full : goal.returns-then-is_full
returns-then-is_full c =
    let a = c.args in
    let state = shown_by a.self.now in
    let name = a.name.now in
    let last = option_copied a.last in
    let rows = a.self.now.tags.entries in
    let l = c.loop-spot in
    let front = map deref_pair l.yielded in
    let e = deref_pair (c.in-Some.spot, c.in-Some.field-0-1) in
    let start : c.into_iter-spot-iterator.result ≡ rows = c.into_iter-spot-iterator.ensures.into_iter_gives ∙ c.iter-spot-items.ensures.rest in
    let split : rows ≡ front ++ e ∷ c.next.new.self =
    sym start ∙ rest_so_far deref_pair l.yielded c.into_iter-spot-iterator.result l.spot-iterator l.yielded_by
    ∙ ap (λ (rest : List ((List ℕ × List ℕ) × List ℕ)). front ++ rest) (rest_more deref_pair l.spot-iterator c.next.new.self c.next.result (c.in-Some.spot, c.in-Some.field-0-1) c.in-Some.is c.next.ensures.steps) in
    let sorted : IsStrictlySortedBy spot_cmp (keys_of (front ++ e ∷ c.next.new.self)) = subst (λ (r : List ((List ℕ × List ℕ) × List ℕ)). IsStrictlySortedBy spot_cmp (keys_of r)) split c.iter-spot-items.ensures.ordered in
    let asked : is_asked name last e.0 ≡ true = search rules in
    let both = lists_cut state name last front e c.next.new.self sorted (λ tag. ap (lookup (at (name, tag))) split) asked in
    let found = c.from_vec-then-is_full.ensures ∙ l.invariant.found in
    let some : a.n ≡ Some 0 → ⊥ = search rules in
    let full : a.n ≡ Some (length c.from_vec-then-is_full.result) = c.is_full.ensures.0 c.if-is_full.true ∙ ap (λ (ts : List (List ℕ)). Some (length ts)) (c.deref.ensures.value ∙ sym c.from_vec-then-is_full.ensures) in
    is_cut state name last a.n c.from_vec-then-is_full.result e.0.1 some (subst (AreNextTags state name last) (sym found) both.0) (subst (λ ts. IsNextTag state name (last_of last ts) (Some e.0.1)) (sym found) both.1) full

pub returns : goal.returns
returns c =
    let a = c.args in
    let state = shown_by a.self.now in
    let name = a.name.now in
    let last = option_copied a.last in
    let rows = a.self.now.tags.entries in
    let l = c.loop-spot in
    let start : c.into_iter-spot-iterator.result ≡ rows = c.into_iter-spot-iterator.ensures.into_iter_gives ∙ c.iter-spot-items.ensures.rest in
    let whole = (iter_end deref_pair rows l.yielded c.into_iter-spot-iterator.result l.spot-iterator c.next.new.self c.next.result start l.yielded_by c.in-None.is c.next.ensures.steps).0 in
    let found : c.from_vec-2.result ≡ tags_asked name last rows = c.from_vec-2.ensures ∙ l.invariant.found ∙ ap (tags_asked name last) whole in
    let both = lists_all state name last rows c.iter-spot-items.ensures.ordered (λ tag. refl) in
    let some : a.n ≡ Some 0 → ⊥ = search rules in
    let room : IfSome a.n (λ n. length c.from_vec-2.result ≤ n) = subst (λ (ts : List (List ℕ)). IfSome a.n (λ n. length ts ≤ n)) (sym c.from_vec-2.ensures) l.invariant.room in
    is_whole state name last a.n c.from_vec-2.result some (subst (AreNextTags state name last) (sym found) both.0) (subst (λ ts. IsNextTag state name (last_of last ts) None) (sym found) both.1) room
