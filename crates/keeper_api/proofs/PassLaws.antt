-- A list of digests in order, passed over one by one.
use Rattle.std.proofs.Common.{◌≡◌, ℕ, suc, ◌+◌, ◌-◌, ◌<◌, Bool, true, List, Option, Some, sym, ap, ◌∙◌, arith}
use Rattle.std.proofs.lemmas.Bool.{cond-true}
use Rattle.keeper_api.specs.InnerEntries.{is_behind, item_at, items_passed}

pub one_more_passed : (free : Bool) (last other : Option (List ℕ)) (count i : ℕ) (bytes digest rest : List ℕ) (total : Option (List ℕ)) → i < count → item_at free bytes ≡ Some (digest, rest) → other ≡ last
    → true ≡ is_behind other digest → items_passed free last (count - i) bytes ≡ total → items_passed free (Some digest) (count - (i + 1)) rest ≡ total
unfolding items_passed
one_more_passed free last other count i bytes digest rest total lt item same behind so_far =
    let k : count - i ≡ suc (count - (i + 1)) = omega arith in
    let next : is_behind last digest ≡ true = ap (λ o. is_behind o digest) (sym same) ∙ sym behind in
    let one : items_passed free last (count - i) bytes ≡ items_passed free (Some digest) (count - (i + 1)) rest = rw (k, item) (cond-true (is_behind last digest) _ _ next) in
    sym one ∙ so_far
