-- The tags that a walk meets are those that are asked for, in their order.
use Rattle.std.proofs.Common.{◌≡◌, ℕ, zero, suc, ◌≤◌, Bool, true, false, cond, List, [], ◌∷◌, ◌++◌, length, map, Option, Some, None, refl, sym, ap, subst, ◌∙◌, is_lt, is_eq, Ordering, Less, Equal, Greater, length-append, arith}
use Rattle.std.specs.Prelude.{is_some, IfSome}
use Rattle.std.specs.List.{AllByRecursion, filter}
use Rattle.std.specs.List.Sorted.{IsStrictlySortedBy}
use Rattle.std.specs.Map.{lookup, keys_of}
use Rattle.std.specs.Ordering.{nat_cmp, ordering_then}
use Rattle.std.specs.Cmp.Lexicographic.{slice_cmp, bytes_decides, nat_list_cmp_total}
use Rattle.std.proofs.lemmas.Bool.{true≢false, false≢true, and_parts, and_from}
use Rattle.std.proofs.lemmas.Option.{same_Some}
use Rattle.std.proofs.lemmas.Cmp.{tied_itself}
use Rattle.std.proofs.lemmas.Map.Keys.{sorted_head, sorted_tail}
use Rattle.reg_entries.specs.State.{State}
use Rattle.reg_entries.specs.Listing.{is_lesser, is_behind, IsNextTag, AreNextTags, last_of, IsListing}
use Rattle.reg_entries.proofs.ListingLaws.{behind_trans}
use Rattle.reg_journal.specs.Changes.{is_same}
use Rattle.reg_plain.specs.Held.{spot_cmp}
use Rattle.reg_plain.specs.InnerAnswers.{is_asked, tags_asked}
use Rattle.reg_plain.proofs.MapLaws.{same, either, at, equal_from, spot_total, spot_exact}

abbrev Key : Type 0
Key = List ℕ × List ℕ

abbrev Rows : Type 0
Rows = List (Key × List ℕ)

itself : (x : List ℕ) → is_same x x ≡ true
itself x = (bytes_decides x x).1 refl

less_from : (o : Ordering) → is_lt o ≡ true → o ≡ Less
less_from Less h = refl
less_from Equal h = absurd (true≢false (sym h))
less_from Greater h = absurd (true≢false (sym h))

-- ---- keys in order

less_key : (name t u : List ℕ) → is_lesser t u ≡ true → spot_cmp (name, t) (name, u) ≡ Less
less_key name t u h = ap (λ o. ordering_then o (slice_cmp nat_cmp t u)) (tied_itself nat_list_cmp_total name) ∙ less_from (slice_cmp nat_cmp t u) h

lesser_tag : (name t u : List ℕ) → spot_cmp (name, t) (name, u) ≡ Less → is_lesser t u ≡ true
lesser_tag name t u h = ap is_lt (sym (ap (λ o. ordering_then o (slice_cmp nat_cmp t u)) (tied_itself nat_list_cmp_total name)) ∙ h)

not_below : (key other : Key) → spot_cmp key other ≡ Less → at key other ≡ false
not_below key other h = ap is_eq h

not_above : (key other : Key) → spot_cmp other key ≡ Less → at key other ≡ false
not_above key other h =
    either (at key other)
    (λ t. absurd (false≢true (ap is_eq (sym h ∙ ap (spot_cmp other) (spot_exact key other (equal_from (spot_cmp key other) t)) ∙ tied_itself spot_total other))))
    (λ f. f)

none_below : (key low : Key) (rows : Rows) → AllByRecursion (λ k. spot_cmp low k ≡ Less) (keys_of rows) → spot_cmp key low ≡ Less → lookup (at key) rows ≡ None
none_below key low [] all h = refl
none_below key low (e ∷ rows) all h =
    ap (λ b. cond b (Some e.1) (lookup (at key) rows)) (not_below key e.0 (spot_total.trans key low e.0 h all.0)) ∙ none_below key low rows all.1 h

all_so : {K : Type 0} (P Q : K → Type 0) → ((k : K) → P k → Q k) → (ks : List K) → AllByRecursion P ks → AllByRecursion Q ks
all_so P Q f [] h = tt
all_so P Q f (k ∷ ks) h = (f k h.0, all_so P Q f ks h.1)

all_of : {K : Type 0} (Q : K → Type 0) → ((k : K) → Q k) → (ks : List K) → AllByRecursion Q ks
all_of Q f [] = tt
all_of Q f (k ∷ ks) = (f k, all_of Q f ks)

-- ---- the tags of rows in order

module _ (state : State) (name : List ℕ) (last : Option (List ℕ)) where
  -- the tags behind a text are those of the rows that are left
  record Ahead (after : Option (List ℕ)) (rows : Rows) : Type 0 where
    pub found : (tag : List ℕ) → is_behind after tag ≡ true → state.tags name tag ≡ lookup (at (name, tag)) rows
    pub behind : AllByRecursion (λ (k : Key). is_asked name last k ≡ true → is_behind after k.1 ≡ true) (keys_of rows)
    pub later : (tag : List ℕ) → is_behind after tag ≡ true → is_behind last tag ≡ true

  abbrev Lists : Option (List ℕ) → List (List ℕ) → Type 0
  Lists after tags = AreNextTags state name after tags × IsNextTag state name (last_of after tags) None

  key_is : (k : Key) → is_asked name last k ≡ true → k ≡ (name, k.1)
  key_is k t = let n = same k.0 name (and_parts (is_same k.0 name) (is_behind last k.1) t).0 in λ i. (n i, k.1)

  behind_last : (k : Key) → is_asked name last k ≡ true → is_behind last k.1 ≡ true
  behind_last k t = (and_parts (is_same k.0 name) (is_behind last k.1) t).1

  module _ (after : Option (List ℕ)) (e : Key × List ℕ) (rows : Rows) (sorted : IsStrictlySortedBy spot_cmp (keys_of (e ∷ rows))) (h : Ahead after (e ∷ rows)) where
    next : is_asked name last e.0 ≡ true → IsNextTag state name after (Some e.0.1)
    next t =
        let key = key_is e.0 t in
        let b : is_behind after e.0.1 ≡ true = h.behind.0 t in
        let here : at (name, e.0.1) e.0 ≡ true = subst (λ (k : Key). at k e.0 ≡ true) key (ap is_eq (tied_itself spot_total e.0)) in (
          b,
          ap is_some (h.found e.0.1 b ∙ ap (λ c. cond c (Some e.1) (lookup (at (name, e.0.1)) rows)) here),
          λ tag behind less.
              let below : spot_cmp (name, tag) e.0 ≡ Less = subst (λ (k : Key). spot_cmp (name, tag) k ≡ Less) (sym key) (less_key name tag e.0.1 less) in
              h.found tag behind ∙ ap (λ c. cond c (Some e.1) (lookup (at (name, tag)) rows)) (not_below (name, tag) e.0 below)
              ∙ none_below (name, tag) e.0 rows (sorted_head spot_cmp e.0 (keys_of rows) sorted) below,
        )

    met : is_asked name last e.0 ≡ true → Ahead (Some e.0.1) rows
    met t =
        let key = key_is e.0 t in
        record {
          found = λ tag b.
              let less : spot_cmp e.0 (name, tag) ≡ Less = subst (λ (k : Key). spot_cmp k (name, tag) ≡ Less) (sym key) (less_key name e.0.1 tag b) in
              h.found tag (behind_trans after e.0.1 tag (h.behind.0 t) b) ∙ ap (λ c. cond c (Some e.1) (lookup (at (name, tag)) rows)) (not_above (name, tag) e.0 less);
          behind = all_so (λ k. spot_cmp e.0 k ≡ Less) (λ (k : Key). is_asked name last k ≡ true → is_behind (Some e.0.1) k.1 ≡ true)
              (λ k less asked. lesser_tag name e.0.1 k.1 ((λ i. spot_cmp (sym key i) (sym (key_is k asked) i)) ∙ less))
              (keys_of rows) (sorted_head spot_cmp e.0 (keys_of rows) sorted);
          later = λ tag b. behind_trans last e.0.1 tag (behind_last e.0 t) b;
        }

    passed : is_asked name last e.0 ≡ false → Ahead after rows
    passed f = record {
      found = λ tag b.
          h.found tag b
          ∙ ap (λ c. cond c (Some e.1) (lookup (at (name, tag)) rows))
          (either (at (name, tag) e.0)
          (λ t. let key = spot_exact (name, tag) e.0 (equal_from (spot_cmp (name, tag) e.0) t) in
          absurd (false≢true (sym f ∙ sym (ap (is_asked name last) key) ∙ and_from (is_same name name) (is_behind last tag) (itself name) (h.later tag b))))
          (λ n. n));
      behind = h.behind.1;
      later = h.later;
    }

  more : (e : Key × List ℕ) (rows : Rows) (b : Bool) → is_asked name last e.0 ≡ b → tags_asked name last (e ∷ rows) ≡ cond b (e.0.1 ∷ tags_asked name last rows) (tags_asked name last rows)
  more e rows b is = ap (λ (c : Bool). map (λ (x : Key × List ℕ). x.0.1) (cond c (e ∷ filter (λ (x : Key × List ℕ). is_asked name last x.0) rows) (filter (λ (x : Key × List ℕ). is_asked name last x.0) rows))) is ∙ by b
    where
      by : (b : Bool) → map (λ (x : Key × List ℕ). x.0.1) (cond b (e ∷ filter (λ (x : Key × List ℕ). is_asked name last x.0) rows) (filter (λ (x : Key × List ℕ). is_asked name last x.0) rows)) ≡ cond b (e.0.1 ∷ tags_asked name last rows) (tags_asked name last rows)
      by true = refl
      by false = refl

  lists_ahead : (after : Option (List ℕ)) (rows : Rows) → IsStrictlySortedBy spot_cmp (keys_of rows) → Ahead after rows → Lists after (tags_asked name last rows)
  lists_ahead after [] s h = (tt, λ tag b. h.found tag b)
  lists_ahead after (e ∷ rows) s h =
      either (is_asked name last e.0)
      (λ t. let rest : Lists (Some e.0.1) (tags_asked name last rows) = lists_ahead (Some e.0.1) rows (sorted_tail spot_cmp e.0 (keys_of rows) s) (met after e rows s h t) in
      subst (Lists after) (sym (more e rows true t)) ((next after e rows s h t, rest.0), rest.1))
      (λ f. subst (Lists after) (sym (more e rows false f)) (lists_ahead after rows (sorted_tail spot_cmp e.0 (keys_of rows) s) (passed after e rows s h f)))

  pub lists_all : (rows : Rows) → IsStrictlySortedBy spot_cmp (keys_of rows) → ((tag : List ℕ) → state.tags name tag ≡ lookup (at (name, tag)) rows)
      → AreNextTags state name last (tags_asked name last rows) × IsNextTag state name (last_of last (tags_asked name last rows)) None
  lists_all rows s h = lists_ahead last rows s (record { found = λ tag b. h tag; behind = all_of (λ (k : Key). is_asked name last k ≡ true → is_behind last k.1 ≡ true) behind_last (keys_of rows); later = λ tag b. b })

  -- the first of them, and the one behind those
  cut : (after : Option (List ℕ)) (front : List (List ℕ)) (tag : List ℕ) (back : List (List ℕ)) → AreNextTags state name after (front ++ tag ∷ back) → AreNextTags state name after front × IsNextTag state name (last_of after front) (Some tag)
  cut after [] tag back h = (tt, h.0)
  cut after (t ∷ front) tag back h = let rest = cut (Some t) front tag back h.1 in ((h.0, rest.0), rest.1)

  append : (front : Rows) (rows : Rows) → tags_asked name last (front ++ rows) ≡ tags_asked name last front ++ tags_asked name last rows
  append [] rows = refl
  append (e ∷ front) rows =
      either (is_asked name last e.0)
      (λ t. more e (front ++ rows) true t ∙ ap (λ (ts : List (List ℕ)). e.0.1 ∷ ts) (append front rows) ∙ sym (ap (λ (ts : List (List ℕ)). ts ++ tags_asked name last rows) (more e front true t)))
      (λ f. more e (front ++ rows) false f ∙ append front rows ∙ sym (ap (λ (ts : List (List ℕ)). ts ++ tags_asked name last rows) (more e front false f)))

  pub one_more : (front : Rows) (e : Key × List ℕ) → is_asked name last e.0 ≡ true → tags_asked name last (front ++ e ∷ []) ≡ tags_asked name last front ++ e.0.1 ∷ []
  one_more front e t = append front (e ∷ []) ∙ ap (λ (ts : List (List ℕ)). tags_asked name last front ++ ts) (more e [] true t)

  pub none_more : (front : Rows) (e : Key × List ℕ) → is_asked name last e.0 ≡ false → tags_asked name last (front ++ e ∷ []) ≡ tags_asked name last front ++ []
  none_more front e f = append front (e ∷ []) ∙ ap (λ (ts : List (List ℕ)). tags_asked name last front ++ ts) (more e [] false f)

  pub lists_cut : (front : Rows) (e : Key × List ℕ) (back : Rows) → IsStrictlySortedBy spot_cmp (keys_of (front ++ e ∷ back)) → ((tag : List ℕ) → state.tags name tag ≡ lookup (at (name, tag)) (front ++ e ∷ back)) → is_asked name last e.0 ≡ true
      → AreNextTags state name last (tags_asked name last front) × IsNextTag state name (last_of last (tags_asked name last front)) (Some e.0.1)
  lists_cut front e back s h t =
      let all = (lists_all (front ++ e ∷ back) s h).0 in
      cut last (tags_asked name last front) e.0.1 (tags_asked name last back)
      (subst (AreNextTags state name last) (append front (e ∷ back) ∙ ap (λ (ts : List (List ℕ)). tags_asked name last front ++ ts) (more e back true t)) all)

  -- ---- listings

  pub is_whole : (most : Option ℕ) (found : List (List ℕ)) → (most ≡ Some 0 → ⊥) → AreNextTags state name last found → IsNextTag state name (last_of last found) None → IfSome most (λ n. length found ≤ n) → IsListing state name most last found None
  is_whole None found some chain ended room = (chain, ended, room)
  is_whole (Some zero) found some chain ended room = absurd (some refl)
  is_whole (Some (suc n)) found some chain ended room = (chain, ended, room)

  pub is_cut : (most : Option ℕ) (found : List (List ℕ)) (next : List ℕ) → (most ≡ Some 0 → ⊥) → AreNextTags state name last found → IsNextTag state name (last_of last found) (Some next) → most ≡ Some (length found) → IsListing state name most last found most
  is_cut None found next some chain behind full = absurd (false≢true (ap is_some full))
  is_cut (Some zero) found next some chain behind full = absurd (some refl)
  is_cut (Some (suc n)) found next some chain behind full = (chain, (next, behind), refl, sym (same_Some (suc n) (length found) full))

pub none_asked : (state : State) (name : List ℕ) (last : Option (List ℕ)) (most : Option ℕ) (found : List (List ℕ)) → most ≡ Some 0 → found ≡ [] → IsListing state name most last found None
none_asked state name last (Some zero) found zero_asked empty = (empty, refl)
none_asked state name last (Some (suc n)) found zero_asked empty = absurd (let e = same_Some (suc n) 0 zero_asked in omega (arith, e))
none_asked state name last None found zero_asked empty = absurd (false≢true (ap is_some zero_asked))

pub room_left : (most : Option ℕ) (found : List (List ℕ)) (tag : List ℕ) → IfSome most (λ n. length found ≤ n) → (most ≡ Some (length found) → ⊥) → IfSome most (λ n. length (found ++ tag ∷ []) ≤ n)
room_left None found tag h full = tt
room_left (Some n) found tag h full =
    let e = length-append found (tag ∷ []) in
    let apart : n ≡ length found → ⊥ = λ same. full (ap Some same) in
    omega (arith, e, h, apart)
