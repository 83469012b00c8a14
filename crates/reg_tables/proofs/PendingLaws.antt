-- What changes that wait make of rows.
use Rattle.std.proofs.Common.{◌≡◌, ℕ, Bool, true, false, cond, List, [], ◌∷◌, Option, Some, None, refl, ap, sym, subst, ◌∙◌, Ordering, Less, Equal, Greater}
use Rattle.std.specs.Prelude.{map, IfSome, ◌&&◌}
use Rattle.std.specs.BTreeMap.{insert_entry}
use Rattle.std.specs.BTreeMap.Range.{range_contains, entries_between}
use Rattle.std.specs.Cmp.{eq_by_cmp_equiv}
use Rattle.std.specs.Cmp.Lexicographic.{slice_cmp, nat_list_cmp_total}
use Rattle.std.specs.List.{filter, AllByRecursion}
use Rattle.std.specs.List.Sorted.{IsStrictlySortedBy}
use Rattle.std.specs.Map.{keys_of, lookup}
use Rattle.std.specs.Option.{unwrap_or}
use Rattle.std.specs.Ordering.{nat_cmp, is_eq, is_lt, match_ordering, ordering_reverse}
use Rattle.std.specs.declared.ops.Bound.TheVariants.{Excluded, Unbounded}
use Rattle.std.proofs.lemmas.Bool.{true≢false, false≢true}
use Rattle.std.proofs.lemmas.Cmp.{tied_itself}
use Rattle.std.proofs.lemmas.List.Elements.{filter_agree}
use Rattle.std.proofs.lemmas.List.Kept.{IsStrictlySortedBy-filter}
use Rattle.std.proofs.lemmas.Map.{lookup-none}
use Rattle.std.proofs.lemmas.Map.Entries.{none_past_head}
use Rattle.std.proofs.lemmas.Map.Keys.{IsDistinct-from_sorted}
use Rattle.std.proofs.lemmas.Map.Lookups.{exact_bytes}
use Rattle.keeper_api.specs.declared.change.Change.{Change}
use Rattle.keeper_api.specs.Rows.{Rows, is_at, is_below, with_row, key_of}
use Rattle.keeper_api.specs.Changes.{after, after_one, ArePutsFit}
use Rattle.keeper_api.specs.Tables.{Fits}
use Rattle.reg_tables.specs.InnerPending.{change_of, changes_of}

-- ---- keys

equal_from : (o : Ordering) → is_eq o ≡ true → o ≡ Equal
equal_from Less h = absurd (true≢false (sym h))
equal_from Equal h = refl
equal_from Greater h = absurd (true≢false (sym h))

pub same_key : (k q : List ℕ) → is_at k q ≡ true → k ≡ q
same_key k q at = exact_bytes k q (equal_from (slice_cmp nat_cmp k q) at)

pub at_itself : (k : List ℕ) → is_at k k ≡ true
at_itself k = ap is_eq (tied_itself nat_list_cmp_total k)

-- two keys that differ
pub apart : (k q : List ℕ) → ¬ (k ≡ q) → is_at k q ≡ false
apart k q n = by (is_at k q) refl
  where
    by : (b : Bool) → is_at k q ≡ b → b ≡ false
    by true e = absurd (n (same_key k q e))
    by false e = refl

reversed : (o : Ordering) → is_eq (ordering_reverse o) ≡ is_eq o
reversed Less = refl
reversed Equal = refl
reversed Greater = refl

turned : (k q : List ℕ) → is_at k q ≡ is_at q k
turned k q = ap is_eq (nat_list_cmp_total.antisymm k q) ∙ reversed (slice_cmp nat_cmp q k)

pub lt_is : (o : Ordering) → is_lt o ≡ true → o ≡ Less
lt_is Less h = refl
lt_is Equal h = absurd (false≢true h)
lt_is Greater h = absurd (false≢true h)

pub and_true : (b : Bool) → (b && true) ≡ b
and_true true = refl
and_true false = refl

-- ---- one change

abbrev pub Waiting : Type 0
Waiting = List (List ℕ × Option (List ℕ))

abbrev pub Ascend : List (List ℕ) → Type 0
Ascend keys = IsStrictlySortedBy (slice_cmp nat_cmp) keys

after_change : (rows : Rows) (k : List ℕ) (slot : Option (List ℕ)) → after_one rows (change_of k slot) ≡ with_row rows k slot
after_change rows k None = refl
after_change rows k (Some row) = refl

key_change : (k : List ℕ) (slot : Option (List ℕ)) → key_of (change_of k slot) ≡ k
key_change k None = refl
key_change k (Some row) = refl

fit_first : (k : List ℕ) (slot : Option (List ℕ)) (cs : List Change) → IfSome slot (Fits k) → ArePutsFit cs → ArePutsFit (change_of k slot ∷ cs)
fit_first k None cs new h = h
fit_first k (Some row) cs new h = (new, h)

fit_parts : (k : List ℕ) (slot : Option (List ℕ)) (cs : List Change) → ArePutsFit (change_of k slot ∷ cs) → IfSome slot (Fits k) × ArePutsFit cs
fit_parts k None cs h = (tt, h)
fit_parts k (Some row) cs h = h

-- ---- what waits at a key

pub after_waiting : (rows : Rows) (ws : Waiting) → Ascend (keys_of ws) → (q : List ℕ) → after rows (changes_of ws) q ≡ unwrap_or (lookup (is_at q) ws) (rows q)
unfolding IsStrictlySortedBy
after_waiting rows [] ascend q = refl
after_waiting rows (w ∷ ws) ascend q =
    ap (λ r. after r (changes_of ws) q) (after_change rows w.0 w.1) ∙ after_waiting (with_row rows w.0 w.1) ws ascend.1 q
    ∙ ap (λ b. unwrap_or (lookup (is_at q) ws) (cond b w.1 (rows q))) (turned w.0 q) ∙ by (is_at q w.0) refl
  where
    by : (b : Bool) → is_at q w.0 ≡ b → unwrap_or (lookup (is_at q) ws) (cond b w.1 (rows q)) ≡ unwrap_or (cond b (Some w.1) (lookup (is_at q) ws)) (rows q)
    by true e =
        ap (λ found. unwrap_or found w.1)
        (lookup-none (is_at q) ws (none_past_head (eq_by_cmp_equiv nat_list_cmp_total) q w ws (IsDistinct-from_sorted (slice_cmp nat_cmp) (keys_of (w ∷ ws)) ascend) e))
    by false e = refl

pub set_waiting : (rows : Rows) (old new : Waiting) (k : List ℕ) (slot : Option (List ℕ)) → Ascend (keys_of old) → Ascend (keys_of new)
    → ((q : List ℕ) → lookup (is_at q) new ≡ cond (is_at k q) (Some slot) (lookup (is_at q) old))
    → after rows (changes_of new) ≡ with_row (after rows (changes_of old)) k slot
set_waiting rows old new k slot old_ascend new_ascend set = λ i q. at q i
  where
    by : (q : List ℕ) (b : Bool) → unwrap_or (cond b (Some slot) (lookup (is_at q) old)) (rows q) ≡ cond b slot (unwrap_or (lookup (is_at q) old) (rows q))
    by q true = refl
    by q false = refl

    at : (q : List ℕ) → after rows (changes_of new) q ≡ with_row (after rows (changes_of old)) k slot q
    at q = after_waiting rows new new_ascend q ∙ ap (λ found. unwrap_or found (rows q)) (set q) ∙ by q (is_at k q) ∙ sym (ap (cond (is_at k q) slot) (after_waiting rows old old_ascend q))

pub fit_found : (q : List ℕ) (ws : Waiting) → ArePutsFit (changes_of ws) → IfSome (lookup (is_at q) ws) (λ slot. IfSome slot (Fits q))
fit_found q [] h = tt
fit_found q (w ∷ ws) h = by (is_at q w.0) refl (fit_parts w.0 w.1 (changes_of ws) h).0 (fit_found q ws (fit_parts w.0 w.1 (changes_of ws) h).1)
  where
    by : (b : Bool) → is_at q w.0 ≡ b → IfSome w.1 (Fits w.0) → IfSome (lookup (is_at q) ws) (λ slot. IfSome slot (Fits q)) → IfSome (cond b (Some w.1) (lookup (is_at q) ws)) (λ slot. IfSome slot (Fits q))
    by true e first rest = subst (λ k. IfSome w.1 (Fits k)) (sym (same_key q w.0 e)) first
    by false e first rest = rest

pub fit_set : (k : List ℕ) (slot : Option (List ℕ)) (ws : Waiting) → IfSome slot (Fits k) → ArePutsFit (changes_of ws) → ArePutsFit (changes_of (insert_entry (slice_cmp nat_cmp) ws k slot))
fit_set k slot [] new h = fit_first k slot [] new tt
fit_set k slot (w ∷ ws) new h = by (slice_cmp nat_cmp k w.0) refl (fit_parts w.0 w.1 (changes_of ws) h) (fit_set k slot ws new (fit_parts w.0 w.1 (changes_of ws) h).1)
  where
    by : (o : Ordering) → slice_cmp nat_cmp k w.0 ≡ o → IfSome w.1 (Fits w.0) × ArePutsFit (changes_of ws) → ArePutsFit (changes_of (insert_entry (slice_cmp nat_cmp) ws k slot))
        → ArePutsFit (changes_of (match_ordering o ((k, slot) ∷ w ∷ ws) ((w.0, slot) ∷ ws) (w ∷ insert_entry (slice_cmp nat_cmp) ws k slot)))
    by Less e parts rest = fit_first k slot (changes_of (w ∷ ws)) new h
    by Equal e parts rest = fit_first w.0 slot (changes_of ws) (subst (λ q. IfSome slot (Fits q)) (exact_bytes k w.0 e) new) parts.1
    by Greater e parts rest = fit_first w.0 w.1 (changes_of (insert_entry (slice_cmp nat_cmp) ws k slot)) parts.0 rest

-- ---- what waits above a key

map-filter : {X Y : Type 0} (f : X → Y) (p : Y → Bool) (xs : List X) → map f (filter (λ x. p (f x)) xs) ≡ filter p (map f xs)
map-filter f p [] = refl
map-filter f p (x ∷ xs) = by (p (f x)) (map-filter f p xs)
  where
    by : (b : Bool) → map f (filter (λ x. p (f x)) xs) ≡ filter p (map f xs) → map f (cond b (x ∷ filter (λ x. p (f x)) xs) (filter (λ x. p (f x)) xs)) ≡ cond b (f x ∷ filter p (map f xs)) (filter p (map f xs))
    by true rest = ap (λ ys. f x ∷ ys) rest
    by false rest = rest

module _ (a : List ℕ) where
  abbrev is_above : List ℕ → Bool
  is_above k = range_contains (slice_cmp nat_cmp) (Excluded a) Unbounded k

  pub changes_above : (ws : Waiting) → changes_of (entries_between (slice_cmp nat_cmp) (Excluded a) Unbounded ws) ≡ filter (λ c. is_below a (key_of c)) (changes_of ws)
  changes_above ws =
      ap changes_of (filter_agree (λ (w : List ℕ × Option (List ℕ)). is_above w.0) (λ w. is_below a (key_of (change_of w.0 w.1))) (λ w. and_true (is_below a w.0) ∙ ap (is_below a) (sym (key_change w.0 w.1))) ws)
      ∙ map-filter (λ (w : List ℕ × Option (List ℕ)). change_of w.0 w.1) (λ c. is_below a (key_of c)) ws

  all_above : (ks : List (List ℕ)) → AllByRecursion (λ k. slice_cmp nat_cmp a k ≡ Less) (filter is_above ks)
  all_above [] = tt
  all_above (k ∷ ks) = by (is_above k) refl (all_above ks)
    where
      by : (b : Bool) → is_above k ≡ b → AllByRecursion (λ k. slice_cmp nat_cmp a k ≡ Less) (filter is_above ks) → AllByRecursion (λ k. slice_cmp nat_cmp a k ≡ Less) (cond b (k ∷ filter is_above ks) (filter is_above ks))
      by true e rest = (lt_is (slice_cmp nat_cmp a k) (sym (and_true (is_below a k)) ∙ e), rest)
      by false e rest = rest

  pub ascend_above : (ws : Waiting) → Ascend (keys_of ws) → Ascend (a ∷ keys_of (entries_between (slice_cmp nat_cmp) (Excluded a) Unbounded ws))
  unfolding IsStrictlySortedBy
  ascend_above ws h =
      subst (λ ks. Ascend (a ∷ ks)) (sym (map-filter (λ (w : List ℕ × Option (List ℕ)). w.0) is_above ws))
      (all_above (keys_of ws), IsStrictlySortedBy-filter (slice_cmp nat_cmp) is_above (keys_of ws) h)
