-- The order of paths, and the paths that begin with the same parts.
use Rattle.std.proofs.Common.{◌≡◌, ℕ, true, false, Bool, List, [], ◌∷◌, ◌++◌, ◌&&◌, take, drop, length, take-append-drop, refl, ap, sym, subst, ◌∙◌, Ordering, Less, Equal, Greater, true≢false, is_lt, is_le, is_gt, is_eq, nat_cmp, nat_eq}
use Rattle.std.specs.Prelude.{IsTrue}
use Rattle.std.proofs.Math.Seq.{take-append_seam}
use Rattle.std.specs.Ordering.{ordering_then, ordering_reverse}
use Rattle.std.specs.Cmp.{IsTotalOrder}
use Rattle.std.specs.Cmp.Lexicographic.{pointwise, slice_cmp, pointwise_decides, bytes_decides, lists_ties, lists_total, nat_list_cmp_total, texts_ties}
use Rattle.std.proofs.lemmas.Bool.{and_parts}
use Rattle.depot_api.specs.Paths.{path_cmp, is_below, begins_with}

pub path_total : IsTotalOrder path_cmp
path_total = lists_total nat_list_cmp_total

-- what the tests of an order answer of one that is known
pub less_from : (o : Ordering) → is_lt o ≡ true → o ≡ Less
less_from Less h = refl
less_from Equal h = absurd (true≢false (sym h))
less_from Greater h = absurd (true≢false (sym h))

pub equal_from : (o : Ordering) → is_eq o ≡ true → o ≡ Equal
equal_from Less h = absurd (true≢false (sym h))
equal_from Equal h = refl
equal_from Greater h = absurd (true≢false (sym h))

-- paths with the same place in the order are one
pub path_same : (p q : List (List ℕ)) → path_cmp p q ≡ Equal → p ≡ q
path_same p q is = (pointwise_decides bytes_decides p q).0 (lists_ties (slice_cmp nat_cmp) texts_ties p q ∙ ap is_eq is)

pub is_le-from : (o : Ordering) → is_gt o ≡ false → is_le o ≡ true
is_le-from Less h = refl
is_le-from Equal h = refl
is_le-from Greater h = absurd (true≢false h)

pub not_gt-from : (o : Ordering) → is_le o ≡ true → is_gt o ≡ false
not_gt-from Less h = refl
not_gt-from Equal h = refl
not_gt-from Greater h = absurd (true≢false (sym h))

-- a path below a second one that is below a third
pub is_below-trans : (p q r : List (List ℕ)) → IsTrue (is_below p q) → IsTrue (is_below q r) → IsTrue (is_below p r)
is_below-trans p q r h g =
    ap is_lt (path_total.trans p q r (less_from (path_cmp p q) h) (less_from (path_cmp q r) g))

-- a path below one that is at most a third, and one that is not above a path below a third
pub below_upto : (a u q : List (List ℕ)) → is_lt (path_cmp a u) ≡ true → is_le (path_cmp u q) ≡ true → is_lt (path_cmp a q) ≡ true
below_upto a u q below upto = by (path_cmp u q) refl upto
  where
    by : (o : Ordering) → o ≡ path_cmp u q → is_le o ≡ true → is_lt (path_cmp a q) ≡ true
    by Less is h = is_below-trans a u q below (ap is_lt (sym is))
    by Equal is h = subst (λ r. is_lt (path_cmp a r) ≡ true) (path_same u q (sym is)) below
    by Greater is h = absurd (true≢false (sym h))

pub upto_below : (a u q : List (List ℕ)) → is_lt (path_cmp a u) ≡ false → is_lt (path_cmp a q) ≡ true → is_le (path_cmp u q) ≡ true
upto_below a u q above below = by (path_cmp a u) refl above
  where
    le_from_less : (o : Ordering) → is_lt o ≡ true → is_le o ≡ true
    le_from_less o h = ap is_le (less_from o h)

    by : (o : Ordering) → o ≡ path_cmp a u → is_lt o ≡ false → is_le (path_cmp u q) ≡ true
    by Less is h = absurd (true≢false h)
    by Equal is h = le_from_less (path_cmp u q) (subst (λ r. is_lt (path_cmp r q) ≡ true) (path_same a u (sym is)) below)
    by Greater is h = le_from_less (path_cmp u q) (is_below-trans u a q (ap is_lt (path_total.antisymm u a ∙ ap ordering_reverse (sym is))) below)

-- the parts in front decide, and behind equal ones the others
parts_step : (o rest goal : Ordering) (more : Bool) → is_gt (ordering_then o rest) ≡ false → (is_eq o && more) ≡ false → (more ≡ false → is_gt rest ≡ false → goal ≡ Less) → ordering_then o goal ≡ Less
parts_step Less rest goal more g n h = refl
parts_step Equal rest goal more g n h = h n g
parts_step Greater rest goal more g n h = absurd (true≢false g)

-- of the paths from `under` on, those that begin with it come before the others
pub front_below : (under q k : List (List ℕ)) → IsTrue (begins_with under q) → begins_with under k ≡ false → is_gt (path_cmp under k) ≡ false → path_cmp q k ≡ Less
front_below [] q k b n g = absurd (true≢false n)
front_below (x ∷ u) [] k b n g = absurd (true≢false (sym b))
front_below (x ∷ u) (z ∷ q) [] b n g = absurd (true≢false g)
front_below (x ∷ u) (z ∷ q) (y ∷ k) b n g =
    let both = and_parts (pointwise nat_eq x z) (begins_with u q) b in
    let same = nat_list_cmp_total.congr x z y (equal_from (slice_cmp nat_cmp x z) (sym (texts_ties x z) ∙ both.0)) in
    ap (λ o. ordering_then o (path_cmp q k)) (sym same)
    ∙ parts_step (slice_cmp nat_cmp x y) (path_cmp u k) (path_cmp q k) (begins_with u k) g (ap (λ t. t && begins_with u k) (sym (texts_ties x y)) ∙ n) (λ m h. front_below u q k both.1 m h)

-- a path that begins with `under` is not below it
pub from_under : (under q : List (List ℕ)) → IsTrue (begins_with under q) → is_gt (path_cmp under q) ≡ false
from_under [] [] b = refl
from_under [] (z ∷ q) b = refl
from_under (x ∷ u) [] b = absurd (true≢false (sym b))
from_under (x ∷ u) (z ∷ q) b =
    let both = and_parts (pointwise nat_eq x z) (begins_with u q) b in
    let same = equal_from (slice_cmp nat_cmp x z) (sym (texts_ties x z) ∙ both.0) in
    ap (λ o. is_gt (ordering_then o (path_cmp u q))) same ∙ from_under u q both.1

-- what begins with `under` is `under` and more parts
pub prefix_from_begins_with : (under p : List (List ℕ)) → IsTrue (begins_with under p) → (rest : List (List ℕ)) × (p ≡ under ++ rest)
prefix_from_begins_with under p b =
    let front = (pointwise_decides bytes_decides under (take (length under) p)).0 b in
    (drop (length under) p, sym (take-append-drop (length under) p) ∙ ap (λ (xs : List (List ℕ)). xs ++ drop (length under) p) (sym front))

pub begins_with_from_prefix : (under p : List (List ℕ)) → ((rest : List (List ℕ)) × (p ≡ under ++ rest)) → IsTrue (begins_with under p)
begins_with_from_prefix under p more =
    (pointwise_decides bytes_decides under (take (length under) p)).1 (sym (take-append_seam under more.0) ∙ ap (take (length under)) (sym more.1))
