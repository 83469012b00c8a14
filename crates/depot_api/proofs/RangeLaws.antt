-- A part of a map of files, by the order of their paths.
use Rattle.std.proofs.Common.{◌≡◌, ℕ, suc, ◌-◌, ◌≤◌, Bool, true, false, ◌&&◌, List, [], ◌∷◌, ◌++◌, take, length, refl, ap, sym, subst, ◌∙◌, Option, Some, None, Less, Equal, is_lt, is_le, is_gt, is_eq, arith, ⊎_elim, length-append, append_assoc}
use Rattle.std.specs.Prelude.{IsTrue}
use Rattle.std.specs.List.{AllByRecursion, filter, take_while}
use Rattle.std.specs.List.Sorted.{IsStrictlySortedBy}
use Rattle.std.specs.Map.{keys_of, lookup}
use Rattle.std.specs.BTreeMap as tree
use Rattle.std.specs.BTreeMap.{BTreeMap, is_at}
use Rattle.std.specs.BTreeMap.Range.{is_from_start, range_contains, entries_between}
use Rattle.std.specs.declared.ops.Bound.{Bound}
use Rattle.std.specs.declared.ops.Bound.TheVariants.{Included, Excluded, Unbounded}
use Rattle.std.proofs.lemmas.Bool.{cases_Bool, and_parts, and_from, cond_both, cond-true}
use Rattle.std.proofs.lemmas.List.Sums.{take_while-cons}
use Rattle.std.proofs.lemmas.Map.Entries.{lookup-filter-keys, lookup_head, lookup_tail}
use Rattle.std.proofs.lemmas.Map.Keys.{sorted_head, sorted_tail}
use Rattle.depot_api.specs.Paths.{path_cmp, begins_with}
use Rattle.depot_api.specs.InnerRanges.{StartsAt, with_whole, wholes}
use Rattle.depot_api.specs.Pages.{is_after, IsAsked, IsPage}
use Rattle.depot_api.specs.Slots.{content}
use Rattle.depot_api.specs.declared.memory.slots.Slot.{Slot}
use Rattle.depot_api.specs.declared.memory.slots.Slot.TheVariants.{Whole, Lent}
use Rattle.depot_api.proofs.OrderLaws.{path_same, equal_from, is_le-from, not_gt-from, from_under, below_upto, upto_below}
use Rattle.depot_api.proofs.PageLaws.{Shown, IsPage-from_shown}

abbrev Path : Type 0
Path = List (List ℕ)

abbrev Entry : Type 0
Entry = Path × Slot

-- what holds of each key holds of those that are kept
all_kept : (P : Path → Type 0) (p : Path → Bool) (es : List Entry) → AllByRecursion P (keys_of es) → AllByRecursion P (keys_of (filter (λ e. p e.0) es))
all_kept P p [] all = tt
all_kept P p (e ∷ es) all =
    cond_both (p e.0) (e ∷ filter (λ x. p x.0) es) (filter (λ x. p x.0) es) (λ fs. AllByRecursion P (keys_of fs)) (λ _. (all.0, all_kept P p es all.1)) (λ _. all_kept P p es all.1)

-- the keys that are kept pass
kept_pass : (P : Path → Type 0) (p : Path → Bool) → ((k : Path) → p k ≡ true → P k) → (es : List Entry) → AllByRecursion P (keys_of (filter (λ e. p e.0) es))
kept_pass P p h [] = tt
kept_pass P p h (e ∷ es) =
    cond_both (p e.0) (e ∷ filter (λ x. p x.0) es) (filter (λ x. p x.0) es) (λ fs. AllByRecursion P (keys_of fs)) (λ y. (h e.0 y, kept_pass P p h es)) (λ _. kept_pass P p h es)

-- the keys that are kept stay in order
sorted_kept : (p : Path → Bool) (es : List Entry) → IsStrictlySortedBy path_cmp (keys_of es) → IsStrictlySortedBy path_cmp (keys_of (filter (λ e. p e.0) es))
unfolding IsStrictlySortedBy
sorted_kept p [] s = tt
sorted_kept p (e ∷ es) s =
    cond_both (p e.0) (e ∷ filter (λ x. p x.0) es) (filter (λ x. p x.0) es) (λ fs. IsStrictlySortedBy path_cmp (keys_of fs)) (λ _. (all_kept (λ k. path_cmp e.0 k ≡ Less) p es s.0, sorted_kept p es s.1)) (λ _. sorted_kept p es s.1)

-- a test that a second one follows from, and one from which a second one follows
both_left : (x y : Bool) → (x ≡ true → y ≡ true) → x ≡ (x && y)
both_left true y h = sym (h refl)
both_left false y h = refl

both_right : (x y : Bool) → (y ≡ true → x ≡ true) → y ≡ (x && y)
both_right true y h = refl
both_right false true h = sym (h refl)
both_right false false h = refl

-- where a page without `after` begins, one whose `after` is below `under`, and one whose `after` is not
pub starts_at_under : (under : Path) → StartsAt (Included under) under None
starts_at_under under q = both_left (is_le (path_cmp under q)) true (λ _. refl)

pub starts_past_after : (under after : Path) → is_lt (path_cmp after under) ≡ true → StartsAt (Included under) under (Some after)
starts_past_after under after below q =
    both_left (is_le (path_cmp under q)) (is_lt (path_cmp after q)) (λ h. below_upto after under q below h)

pub starts_behind_after : (under after : Path) → is_lt (path_cmp after under) ≡ false → StartsAt (Excluded after) under (Some after)
starts_behind_after under after above q =
    both_right (is_le (path_cmp under q)) (is_lt (path_cmp after q)) (λ h. upto_below after under q above h)

-- what holds of each path holds of those of the files
with_all : (P : Path → Type 0) (p : Path) (slot : Slot) (files : List (Path × List ℕ)) → P p → AllByRecursion P (keys_of files) → AllByRecursion P (keys_of (with_whole p slot files))
with_all P p (Whole bytes) files first all = (first, all)
with_all P p Lent files first all = all

all_whole : (P : Path → Type 0) (es : List Entry) → AllByRecursion P (keys_of es) → AllByRecursion P (keys_of (wholes es))
all_whole P [] all = tt
all_whole P (e ∷ es) all = with_all P e.0 e.1 (wholes es) all.0 (all_whole P es all.1)

-- the paths of the files stay in order
with_sorted : (p : Path) (slot : Slot) (files : List (Path × List ℕ)) → AllByRecursion (λ k. path_cmp p k ≡ Less) (keys_of files) → IsStrictlySortedBy path_cmp (keys_of files) → IsStrictlySortedBy path_cmp (keys_of (with_whole p slot files))
unfolding IsStrictlySortedBy
with_sorted p (Whole bytes) files first sorted = (first, sorted)
with_sorted p Lent files first sorted = sorted

sorted_whole : (es : List Entry) → IsStrictlySortedBy path_cmp (keys_of es) → IsStrictlySortedBy path_cmp (keys_of (wholes es))
unfolding IsStrictlySortedBy
sorted_whole [] s = tt
sorted_whole (e ∷ es) s =
    with_sorted e.0 e.1 (wholes es) (all_whole (λ k. path_cmp e.0 k ≡ Less) es s.0) (sorted_whole es s.1)

-- what stands before files is the file at its own path, and changes that of no other
with_none : (q p : Path) (slot : Slot) (files : List (Path × List ℕ)) → is_at (path_cmp q) p ≡ false → lookup (is_at (path_cmp q)) (with_whole p slot files) ≡ lookup (is_at (path_cmp q)) files
with_none q p (Whole bytes) files apart = lookup_tail (is_at (path_cmp q)) (p, bytes) files apart
with_none q p Lent files apart = refl

with_first : (q p : Path) (slot : Slot) (files : List (Path × List ℕ)) → is_at (path_cmp q) p ≡ true → lookup (is_at (path_cmp q)) files ≡ None → lookup (is_at (path_cmp q)) (with_whole p slot files) ≡ content (Some slot)
with_first q p (Whole bytes) files at none = lookup_head (is_at (path_cmp q)) (p, bytes) files at
with_first q p Lent files at none = none

-- a path that is the one before ordered files is at none of them
none_behind : (q p : Path) (files : List (Path × List ℕ)) → path_cmp q p ≡ Equal → AllByRecursion (λ k. path_cmp p k ≡ Less) (keys_of files) → lookup (is_at (path_cmp q)) files ≡ None
none_behind q p [] at all = refl
none_behind q p (e ∷ es) at all =
    lookup_tail (is_at (path_cmp q)) e es (ap is_eq (ap (λ r. path_cmp r e.0) (path_same q p at) ∙ all.0))
    ∙ none_behind q p es at all.1

-- the file at a path, among those of ordered entries
whole_at : (q : Path) (es : List Entry) → IsStrictlySortedBy path_cmp (keys_of es) → lookup (is_at (path_cmp q)) (wholes es) ≡ content (lookup (is_at (path_cmp q)) es)
whole_at q [] s = refl
whole_at q (e ∷ es) s =
    ⊎_elim
    (λ at.
    with_first q e.0 e.1 (wholes es) at (none_behind q e.0 (wholes es) (equal_from (path_cmp q e.0) at) (all_whole (λ k. path_cmp e.0 k ≡ Less) es (sorted_head path_cmp e.0 (keys_of es) s)))
    ∙ ap content (sym (lookup_head (is_at (path_cmp q)) e es at)))
    (λ apart.
    with_none q e.0 e.1 (wholes es) apart
    ∙ whole_at q es (sorted_tail path_cmp e.0 (keys_of es) s)
    ∙ ap content (sym (lookup_tail (is_at (path_cmp q)) e es apart)))
    (cases_Bool (is_at (path_cmp q) e.0))

-- the range from there on shows every file that is asked for
pub shown_range : (m : BTreeMap Path Slot) (lo : Bound Path) (under : Path) (after : Option Path) → tree.IsOrdered path_cmp m → StartsAt lo under after → Shown (λ q. content (tree.get path_cmp m q)) under after (wholes (entries_between path_cmp lo Unbounded m.entries))
shown_range m lo under after ordered starts = record {
  order = sorted_whole left sorted;
  above = all_whole (λ k. IsTrue (is_after after k)) left (kept_pass (λ k. IsTrue (is_after after k)) inside (λ k y. (tests k y).1) m.entries);
  from = all_whole (λ k. is_gt (path_cmp under k) ≡ false) left (kept_pass (λ k. is_gt (path_cmp under k) ≡ false) inside (λ k y. not_gt-from (path_cmp under k) (tests k y).0) m.entries);
  found = λ q asked. ap content (sym (lookup-filter-keys (is_at (path_cmp q)) inside true (λ k at. subst (λ r. inside r ≡ true) (path_same q k (equal_from (path_cmp q k) at)) (passes q asked)) m.entries)) ∙ sym (whole_at q left sorted);
} where
  inside : Path → Bool
  inside = range_contains path_cmp lo Unbounded

  left : List Entry
  left = entries_between path_cmp lo Unbounded m.entries

  sorted : IsStrictlySortedBy path_cmp (keys_of left)
  sorted = sorted_kept inside m.entries ordered

  tests : (k : Path) → inside k ≡ true → (is_le (path_cmp under k) ≡ true) × (is_after after k ≡ true)
  tests k y = and_parts (is_le (path_cmp under k)) (is_after after k) (sym (starts k) ∙ (and_parts (is_from_start path_cmp lo k) true y).0)

  passes : (q : Path) → IsAsked under after q → inside q ≡ true
  passes q asked =
      and_from (is_from_start path_cmp lo q) true (starts q ∙ and_from _ _ (is_le-from (path_cmp under q) (from_under under q asked.1)) asked.0) refl

-- the paths of the files in front of that range are a page
pub IsPage-from_range : (m : BTreeMap Path Slot) (lo : Bound Path) (under : Path) (after : Option Path) (most : ℕ) (left : List Entry) (page : List Path) → tree.IsOrdered path_cmp m → StartsAt lo under after → left ≡ entries_between path_cmp lo Unbounded m.entries → page ≡ take most (take_while (begins_with under) (keys_of (wholes left))) → IsPage (λ q. content (tree.get path_cmp m q)) under after most page
IsPage-from_range m lo under after most left page ordered starts between is =
    subst (IsPage (λ q. content (tree.get path_cmp m q)) under after most) (sym (is ∙ ap (λ (es : List Entry). take most (take_while (begins_with under) (keys_of (wholes es)))) between)) (IsPage-from_shown _ under most after _ (shown_range m lo under after ordered starts))

-- one more that passes, taken to those in front
pub taken_more : {X : Type 0} (p : X → Bool) (n : ℕ) (front : List X) (x : X) (rest all : List X) → length front ≤ n → (length front ≡ n → ⊥) → p x ≡ true → front ++ take (n - length front) (take_while p (x ∷ rest)) ≡ all → (front ++ x ∷ []) ++ take (n - length (front ++ x ∷ [])) (take_while p rest) ≡ all
taken_more p n front x rest all within some passes is =
    let m = n - length front - 1 in
    let one_less : n - length (front ++ x ∷ []) ≡ m = omega (arith, length-append front (x ∷ [])) in
    let before : n - length front ≡ suc m = omega (arith, within, some) in
    append_assoc front (x ∷ []) (take (n - length (front ++ x ∷ [])) (take_while p rest))
    ∙ ap (λ k. front ++ x ∷ take k (take_while p rest)) one_less
    ∙ ap (λ ys. front ++ take (suc m) ys) (sym (take_while-cons p x rest ∙ cond-true (p x) _ _ passes))
    ∙ ap (λ k. front ++ take k (take_while p (x ∷ rest))) (sym before)
    ∙ is

-- what the first of what is left adds to the files
pub wholes_first : (es rest : List Entry) (p : Path) (slot : Slot) → es ≡ (p, slot) ∷ rest → wholes es ≡ with_whole p slot (wholes rest)
wholes_first es rest p slot is = ap wholes is
