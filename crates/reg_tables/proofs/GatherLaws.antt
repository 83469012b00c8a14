-- What is gathered behind a front.
use Rattle.std.proofs.Common.{◌≡◌, ℕ, Bool, true, false, cond, List, [], ◌∷◌, ◌++◌, Option, Some, None, refl, sym, ap, subst, ◌∙◌, is_some, Ordering, Less, Equal, Greater}
use Rattle.std.specs.Prelude.{◌&&◌, ◌||◌, not}
use Rattle.std.specs.List.{filter}
use Rattle.std.specs.List.Sorted.{IsStrictlySortedBy}
use Rattle.std.specs.Map.{keys_of}
use Rattle.std.specs.Ordering.{nat_cmp, is_eq, is_lt, ordering_reverse}
use Rattle.std.specs.Cmp.Lexicographic.{slice_cmp, nat_list_cmp_total}
use Rattle.std.proofs.lemmas.Bool.{true≢false}
use Rattle.std.proofs.lemmas.List.Folds.{list_any-append}
use Rattle.std.proofs.lemmas.List.{append_cancel_left}
use Rattle.std.proofs.lemmas.Slice.Eq.{bytes_eq-Decides}
use Rattle.reg_names.specs.Named.{has_digest}
use Rattle.reg_journal.specs.Changes.{is_same}
use Rattle.keeper_api.specs.declared.change.Change.{Change}
use Rattle.keeper_api.specs.declared.change.Change.TheVariants as change
use Rattle.keeper_api.specs.Changes.{after, after_one}
use Rattle.keeper_api.specs.Rows.{Rows, is_at, is_below, key_of}
use Rattle.keeper_api.specs.Tables.{Fits}
use Rattle.reg_tables.specs.InnerNexts.{IsNextBehind}
use Rattle.reg_tables.specs.InnerPending.{change_of, changes_of, is_wanted, puts, is_put, ArePartsBehind, MayStandBehind}
use Rattle.reg_tables.proofs.NextLaws.{same_front, beyond}
use Rattle.reg_tables.proofs.PendingLaws.{Waiting, Ascend, same_key, at_itself, apart, lt_is, and_true}

-- ---- sameness

pub same_is : (a b : List ℕ) → is_same a b ≡ true → a ≡ b
same_is a b = (bytes_eq-Decides a b).0

pub same_itself : (a : List ℕ) → is_same a a ≡ true
same_itself a = (bytes_eq-Decides a a).1 refl

pub differs : (a b : List ℕ) → ¬ (a ≡ b) → is_same a b ≡ false
differs a b n = by (is_same a b) refl
  where
    by : (t : Bool) → is_same a b ≡ t → t ≡ false
    by true e = absurd (n (same_is a b e))
    by false e = refl

pub or_false : (b : Bool) → (b || false) ≡ b
or_false true = refl
or_false false = refl

or_true : (b : Bool) → (b || true) ≡ true
or_true true = refl
or_true false = refl

pub has_push : (q : List ℕ) (xs : List (List ℕ)) (x : List ℕ) → has_digest q (xs ++ x ∷ []) ≡ has_digest q xs || is_same q x
has_push q xs x = list_any-append (is_same q) xs (x ∷ []) ∙ ap (λ b. has_digest q xs || b) (or_false (is_same q x))

and_false : (b : Bool) → (b && false) ≡ false
and_false true = refl
and_false false = refl

less_itself : (a b : List ℕ) → b ≡ a → ¬ (slice_cmp nat_cmp a b ≡ Less)
less_itself a b same r = true≢false (sym (at_itself a) ∙ ap (is_at a) (sym same) ∙ ap is_eq r)

greater_itself : (a b : List ℕ) → b ≡ a → ¬ (slice_cmp nat_cmp a b ≡ Greater)
greater_itself a b same r = true≢false (sym (at_itself a) ∙ ap (is_at a) (sym same) ∙ ap is_eq r)

-- ---- a walk

abbrev pub Walked : List ℕ → Option (List ℕ) → Rows → List ℕ → List (List ℕ) → Type 0
Walked front wanted rows bound parts =
    (part : List ℕ) → is_below [] part ≡ true → has_digest part parts ≡ not (is_below bound part) && is_wanted wanted (rows (front ++ part))

pub begun : (front : List ℕ) (wanted : Option (List ℕ)) (rows : Rows) → Walked front wanted rows [] []
begun front wanted rows part some = sym (ap (λ b. not b && is_wanted wanted (rows (front ++ part))) some)

module _ (front : List ℕ) (wanted : Option (List ℕ)) (rows : Rows) where
  abbrev test : List ℕ → Bool
  test part = is_wanted wanted (rows (front ++ part))

  -- where nothing is above a bound, all is known that is as far as the bound
  known : (bound part : List ℕ) (b : Bool) → (is_below bound part ≡ true → rows (front ++ part) ≡ None) → b ≡ not (is_below bound part) && test part → b ≡ test part
  known bound part b none is = by (is_below bound part) refl
    where
      by : (t : Bool) → is_below bound part ≡ t → b ≡ test part
      by true e = is ∙ ap (λ u. not u && test part) e ∙ sym (ap (is_wanted wanted) (none e))
      by false e = is ∙ ap (λ u. not u && test part) e

  pub ended : (bound : List ℕ) (parts : List (List ℕ)) → IsNextBehind front bound rows None → Walked front wanted rows bound parts → ArePartsBehind front wanted rows parts
  ended bound parts next walked part some = known bound part (has_digest part parts) (next part) (walked part some)

  pub one_more : (bound : List ℕ) (parts new : List (List ℕ)) (part row : List ℕ) (stands : Bool) → IsNextBehind front bound rows (Some (part, row)) → stands ≡ is_wanted wanted (Some row) → new ≡ cond stands (parts ++ part ∷ []) parts
      → Walked front wanted rows bound parts → Walked front wanted rows part new
  one_more bound parts new part row stands next is grew walked q some = ap (has_digest q) grew ∙ pushed stands ∙ by (slice_cmp nat_cmp part q) refl
    where
      pushed : (t : Bool) → has_digest q (cond t (parts ++ part ∷ []) parts) ≡ has_digest q parts || (t && is_same q part)
      pushed true = has_push q parts part
      pushed false = sym (or_false (has_digest q parts))

      other : ¬ (q ≡ part) → (t : Bool) → (has_digest q parts || (t && is_same q part)) ≡ has_digest q parts
      other n true = ap (λ b. has_digest q parts || b) (differs q part n) ∙ or_false (has_digest q parts)
      other n false = or_false (has_digest q parts)

      by : (o : Ordering) → slice_cmp nat_cmp part q ≡ o → (has_digest q parts || (stands && is_same q part)) ≡ not (is_below part q) && test q
      by Less r =
          let up : is_below bound q ≡ true = ap is_lt (nat_list_cmp_total.trans bound part q (lt_is (slice_cmp nat_cmp bound part) next.0) r) in
          let old : has_digest q parts ≡ false = walked q some ∙ ap (λ u. not u && test q) up in
          other (λ e. less_itself part q e r) stands ∙ old ∙ sym (ap (λ o. not (is_lt o) && test q) r)
      by Equal r =
          let same : part ≡ q = same_key part q (ap is_eq r) in
          let up : is_below bound q ≡ true = ap (is_below bound) (sym same) ∙ next.0 in
          let old : has_digest q parts ≡ false = walked q some ∙ ap (λ u. not u && test q) up in
          let here : test q ≡ stands = ap (λ k. is_wanted wanted (rows (front ++ k))) (sym same) ∙ ap (is_wanted wanted) next.1 ∙ sym is in
          ap (λ b. b || (stands && is_same q part)) old ∙ ap (λ b. stands && b) (ap (is_same q) same ∙ same_itself q) ∙ and_true stands ∙ sym here ∙ sym (ap (λ o. not (is_lt o) && test q) r)
      by Greater r =
          let down : is_below q part ≡ true = ap is_lt (nat_list_cmp_total.antisymm q part ∙ ap ordering_reverse r) in
          other (λ e. greater_itself part q e r) stands ∙ known bound q (has_digest q parts) (λ up. next.2 q up down) (walked q some) ∙ sym (ap (λ o. not (is_lt o) && test q) r)

-- ---- what is put

pub wanted_put : (wanted : Option (List ℕ)) (key : List ℕ) (rows : Rows) (cs : List Change) → is_wanted wanted (after rows cs key) ≡ true → (is_wanted wanted (rows key) || is_put key cs) ≡ true
wanted_put wanted key rows [] h = ap (λ b. b || false) h
wanted_put wanted key rows (c ∷ cs) h = by c (wanted_put wanted key (after_one rows c) cs h)
  where
    by : (c : Change) → (is_wanted wanted (after_one rows c key) || is_put key cs) ≡ true → (is_wanted wanted (rows key) || (puts key c || is_put key cs)) ≡ true
    by (change.Put at row) = put (is_at at key)
      where
        put : (t : Bool) → (is_wanted wanted (cond t (Some row) (rows key)) || is_put key cs) ≡ true → (is_wanted wanted (rows key) || (t || is_put key cs)) ≡ true
        put true e = or_true (is_wanted wanted (rows key))
        put false e = e
    by (change.Drop at) = dropped (is_at at key)
      where
        dropped : (t : Bool) → (is_wanted wanted (cond t None (rows key)) || is_put key cs) ≡ true → (is_wanted wanted (rows key) || (false || is_put key cs)) ≡ true
        dropped true e = ap (λ b. is_wanted wanted (rows key) || b) e ∙ or_true (is_wanted wanted (rows key))
        dropped false e = e

pub gathered : (front : List ℕ) (wanted : Option (List ℕ)) (rows : Rows) (cs : List Change) (first likely parts : List (List ℕ)) → ArePartsBehind front wanted rows first
    → ((part : List ℕ) → is_below [] part ≡ true → has_digest part likely ≡ has_digest part first || is_put (front ++ part) cs)
    → ((part : List ℕ) → has_digest part parts ≡ has_digest part likely && is_wanted wanted (after rows cs (front ++ part)))
    → ArePartsBehind front wanted (after rows cs) parts
gathered front wanted rows cs first likely parts walked more fits part some =
    fits part ∙ ap (λ b. b && is_wanted wanted (after rows cs (front ++ part))) (more part some ∙ ap (λ b. b || is_put (front ++ part) cs) (walked part some))
    ∙ by (is_wanted wanted (after rows cs (front ++ part))) refl
  where
    by : (t : Bool) → is_wanted wanted (after rows cs (front ++ part)) ≡ t → ((is_wanted wanted (rows (front ++ part)) || is_put (front ++ part) cs) && t) ≡ t
    by true e = ap (λ b. b && true) (wanted_put wanted (front ++ part) rows cs e)
    by false e = and_false (is_wanted wanted (rows (front ++ part)) || is_put (front ++ part) cs)

-- what a key has behind the front is the part that it is put at
pub put_part : (front key part q : List ℕ) → key ≡ front ++ part → is_at key (front ++ q) ≡ is_same q part
put_part front key part q is = by (is_same q part) refl
  where
    by : (t : Bool) → is_same q part ≡ t → is_at key (front ++ q) ≡ t
    by true e = ap (λ k. is_at k (front ++ q)) (is ∙ ap (λ p. front ++ p) (sym (same_is q part e))) ∙ at_itself (front ++ q)
    by false e = apart key (front ++ q) (λ same. true≢false (sym (ap (is_same q) (append_cancel_left front part q (sym is ∙ same)) ∙ same_itself q) ∙ e))

-- ---- those that are wanted

pub stand_push : (front : List ℕ) (parts : List (List ℕ)) (part : List ℕ) (stands : Bool) → MayStandBehind front parts → (stands ≡ true → (row : List ℕ) × Fits (front ++ part) row) → MayStandBehind front (cond stands (parts ++ part ∷ []) parts)
stand_push front parts part false all new = all
stand_push front parts part true all new = push parts all
  where
    push : (ps : List (List ℕ)) → MayStandBehind front ps → MayStandBehind front (ps ++ part ∷ [])
    push [] h = (new refl, tt)
    push (p ∷ ps) h = (h.0, push ps h.1)

pub wanted_next : (wanted : List ℕ → Bool) (parts rest : List (List ℕ)) (part q : List ℕ) (stands : Bool) → stands ≡ wanted part
    → (has_digest q (cond stands (parts ++ part ∷ []) parts) || (has_digest q rest && wanted q)) ≡ (has_digest q parts || ((is_same q part || has_digest q rest) && wanted q))
wanted_next wanted parts rest part q stands is = ap (λ b. b || (has_digest q rest && wanted q)) (pushed stands) ∙ by (is_same q part) refl
  where
    pushed : (t : Bool) → has_digest q (cond t (parts ++ part ∷ []) parts) ≡ has_digest q parts || (t && is_same q part)
    pushed true = has_push q parts part
    pushed false = sym (or_false (has_digest q parts))

    here : (a b w : Bool) → ((a || (w && true)) || (b && w)) ≡ (a || w)
    here true b w = refl
    here false b true = refl
    here false true false = refl
    here false false false = refl

    there : (a b w s : Bool) → ((a || (s && false)) || (b && w)) ≡ (a || (b && w))
    there true b w s = refl
    there false b w true = refl
    there false b w false = refl

    by : (t : Bool) → is_same q part ≡ t → ((has_digest q parts || (stands && t)) || (has_digest q rest && wanted q)) ≡ (has_digest q parts || ((t || has_digest q rest) && wanted q))
    by true e = ap (λ s. (has_digest q parts || (s && true)) || (has_digest q rest && wanted q)) (is ∙ ap wanted (sym (same_is q part e))) ∙ here (has_digest q parts) (has_digest q rest) (wanted q)
    by false e = there (has_digest q parts) (has_digest q rest) (wanted q) stands

-- ---- what is put above the front

below_front : (front part : List ℕ) → is_below [] part ≡ true → is_below (front ++ []) (front ++ part) ≡ true
below_front front part some = ap is_lt (same_front front [] part) ∙ some

-- what is put behind the front is put above it
pub put_above : (front part : List ℕ) (cs : List Change) → is_below [] part ≡ true → is_put (front ++ part) (filter (λ c. is_below (front ++ []) (key_of c)) cs) ≡ is_put (front ++ part) cs
put_above front part [] some = refl
put_above front part (c ∷ cs) some = by (is_below (front ++ []) (key_of c)) refl (put_above front part cs some)
  where
    others : List Change
    others = filter (λ c. is_below (front ++ []) (key_of c)) cs

    elsewhere : (c : Change) → is_below (front ++ []) (key_of c) ≡ false → puts (front ++ part) c ≡ false
    elsewhere (change.Put k row) e = apart k (front ++ part) (λ same. true≢false (sym (ap (is_below (front ++ [])) same ∙ below_front front part some) ∙ e))
    elsewhere (change.Drop k) e = refl

    by : (b : Bool) → is_below (front ++ []) (key_of c) ≡ b → is_put (front ++ part) others ≡ is_put (front ++ part) cs → is_put (front ++ part) (cond b (c ∷ others) others) ≡ puts (front ++ part) c || is_put (front ++ part) cs
    by true e rest = ap (λ b. puts (front ++ part) c || b) rest
    by false e rest = rest ∙ ap (λ b. b || is_put (front ++ part) cs) (sym (elsewhere c e))

not_put : (q key : List ℕ) (slot : Option (List ℕ)) → is_below q key ≡ true → puts q (change_of key slot) ≡ false
not_put q key None below = refl
not_put q key (Some row) below = apart key q (λ same. less_itself q key same (lt_is (slice_cmp nat_cmp q key) below))

-- nothing is put at a key below all of those
pub none_put : (q key : List ℕ) (slot : Option (List ℕ)) (ws : Waiting) → is_below q key ≡ true → Ascend (key ∷ keys_of ws) → is_put q (change_of key slot ∷ changes_of ws) ≡ false
unfolding IsStrictlySortedBy
none_put q key slot [] below ascend = ap (λ b. b || false) (not_put q key slot below)
none_put q key slot (w ∷ ws) below ascend =
    ap (λ b. b || is_put q (changes_of (w ∷ ws))) (not_put q key slot below)
    ∙ none_put q w.0 w.1 ws (ap is_lt (nat_list_cmp_total.trans q key w.0 (lt_is (slice_cmp nat_cmp q key) below) ascend.0.0)) ascend.1

or_assoc : (a b c : Bool) → ((a || b) || c) ≡ (a || (b || c))
or_assoc true b c = refl
or_assoc false b c = refl

module _ (front : List ℕ) (old : List (List ℕ)) (all : List Change) where
  -- the parts so far, and what is left above the front
  pub record PutSoFar (parts : List (List ℕ)) (left : Waiting) : Type 0 where
    pub ascend : Ascend ((front ++ []) ∷ keys_of left)
    pub parts_are : (part : List ℕ) → is_below [] part ≡ true → (has_digest part parts || is_put (front ++ part) (changes_of left)) ≡ (has_digest part old || is_put (front ++ part) all)

  pub put_begun : (left : Waiting) → Ascend ((front ++ []) ∷ keys_of left) → changes_of left ≡ filter (λ c. is_below (front ++ []) (key_of c)) all → PutSoFar old left
  put_begun left ascend are = record { ascend = ascend; parts_are = λ part some. ap (λ b. has_digest part old || b) (ap (is_put (front ++ part)) are ∙ put_above front part all some) }

  -- one key more
  module _ (parts : List (List ℕ)) (key : List ℕ) (slot : Option (List ℕ)) (before left : Waiting) (first : before ≡ (key, slot) ∷ left) (so_far : PutSoFar parts before) where
    now_left : PutSoFar parts ((key, slot) ∷ left)
    now_left = subst (PutSoFar parts) first so_far

    pub put_turn : (new : List (List ℕ)) (part : List ℕ) (stands : Bool) → key ≡ front ++ part → is_some slot ≡ stands → new ≡ cond stands (parts ++ part ∷ []) parts → PutSoFar new left
    unfolding IsStrictlySortedBy
    put_turn new part stands is row grew = record {
      ascend = (now_left.ascend.0.1, now_left.ascend.1.1);
      parts_are = λ q some.
          ap (λ b. b || is_put (front ++ q) (changes_of left)) (ap (has_digest q) (grew ∙ ap (λ b. cond b (parts ++ part ∷ []) parts) (sym row)) ∙ one slot q)
          ∙ or_assoc (has_digest q parts) (puts (front ++ q) (change_of key slot)) (is_put (front ++ q) (changes_of left)) ∙ now_left.parts_are q some;
    }
      where
        one : (s : Option (List ℕ)) (q : List ℕ) → has_digest q (cond (is_some s) (parts ++ part ∷ []) parts) ≡ (has_digest q parts || puts (front ++ q) (change_of key s))
        one None q = sym (or_false (has_digest q parts))
        one (Some row) q = has_push q parts part ∙ ap (λ b. has_digest q parts || b) (sym (put_part front key part q is))

    pub put_past : ((z : List ℕ) → ¬ (key ≡ front ++ z)) → (part : List ℕ) → is_below [] part ≡ true → has_digest part parts ≡ has_digest part old || is_put (front ++ part) all
    unfolding IsStrictlySortedBy
    put_past other part some =
        sym (or_false (has_digest part parts))
        ∙ ap (λ b. has_digest part parts || b) (sym (none_put (front ++ part) key slot left (beyond front [] part key (ap is_lt now_left.ascend.0.0) other) now_left.ascend.1))
        ∙ now_left.parts_are part some
