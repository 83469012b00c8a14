-- What a change of one slot makes of the rows.
use Rattle.std.proofs.Common.{◌≡◌, ℕ, zero, suc, ◌+◌, ◌<◌, ◌≤◌, ◌++◌, length, drop, get_or, arith, append_assoc, Bool, true, false, cond, List, [], ◌∷◌, Option, Some, None, refl, ap, sym, subst, ◌∙◌, is_eq, is_some, Ordering, Less, Equal, Greater}
use Rattle.std.specs.Prelude.{◌||◌, Result, Ok, Err, OnOk, IsSome}
use Rattle.std.specs.Ordering.{nat_cmp, is_lt, is_gt, ordering_reverse}
use Rattle.std.specs.BTreeMap.{BTreeMap}
use Rattle.std.specs.BTreeMap.Range.{IsRangeOf}
use Rattle.std.specs.declared.ops.Bound.TheVariants.{Excluded, Unbounded}
use Rattle.std.specs.Cmp.Lexicographic.{slice_cmp, nat_list_cmp_total}
use Rattle.std.proofs.lemmas.Bool.{true≢false, false≢true, or_left, or_right}
use Rattle.std.proofs.lemmas.List.{at_drop_more}
use Rattle.std.proofs.lemmas.Cmp.{tied_itself}
use Rattle.std.proofs.lemmas.Map.Lookups.{exact_bytes}
use Rattle.keeper_api.specs.declared.change.Change.{Change}
use Rattle.keeper_api.specs.declared.change.Change.TheVariants as change
use Rattle.keeper_api.specs.Rows.{Rows, is_at, with_row, key_of, table_of, IsNextRow}
use Rattle.keeper_api.specs.Changes.{after, ArePutsFit}
use Rattle.keeper_api.specs.Slots.{Slot, Slotted, slots_in, rows_in, content}
use Rattle.keeper_api.specs.InnerSlots.{is_held, among, IsHeldBut, HasSlot, is_empty, outcome_of, outcomes_of, keys_of, with_outcomes, AreHeld, HaveSlots, AreAmong}

equal_from : (o : Ordering) → is_eq o ≡ true → o ≡ Equal
equal_from Less h = absurd (true≢false (sym h))
equal_from Equal h = refl
equal_from Greater h = absurd (true≢false (sym h))

pub same_key : (k q : List ℕ) → is_at k q ≡ true → k ≡ q
same_key k q at = exact_bytes k q (equal_from (slice_cmp nat_cmp k q) at)

pub at_itself : (k : List ℕ) → is_at k k ≡ true
at_itself k = ap is_eq (tied_itself nat_list_cmp_total k)

abbrev contents : Slotted → Rows
contents f = λ q. content (f q)

none_from : (slot : Slot) → is_some slot ≡ false → slot ≡ None
none_from None h = refl
none_from (Some x) h = absurd (true≢false h)

-- the slot of one key was set, and the others stayed
module _ (f g : Slotted) (k : List ℕ) where
  -- a slot was made where there was none
  module _ (set : (q : List ℕ) → g q ≡ cond (is_at k q) (Some None) (f q)) where
    pub made_rows : is_some (f k) ≡ false → contents g ≡ contents f
    made_rows none = λ i q. at q i
      where
        by : (q : List ℕ) (c : Bool) → is_at k q ≡ c → content (cond c (Some None) (f q)) ≡ content (f q)
        by q true at = sym (ap content (ap f (sym (same_key k q at)) ∙ none_from (f k) none))
        by q false at = refl

        at : (q : List ℕ) → content (g q) ≡ content (f q)
        at q = ap content (set q) ∙ by q (is_at k q) refl

    pub made_held : (keys : List (List ℕ)) → among k keys ≡ true → IsHeldBut keys f → IsHeldBut keys g
    made_held keys here held q = ap (is_held (among q keys) q) (set q) ∙ by (is_at k q) refl
      where
        by : (c : Bool) → is_at k q ≡ c → is_held (among q keys) q (cond c (Some None) (f q)) ≡ true
        by true at = subst (λ p. among p keys ≡ true) (same_key k q at) here
        by false at = held q

    pub made_stays : (q : List ℕ) → HasSlot f q → HasSlot g q
    made_stays q has = ap is_some (set q) ∙ by (is_at k q)
      where
        by : (c : Bool) → is_some (cond {A = Slot} c (Some None) (f q)) ≡ true
        by true = refl
        by false = has

  -- something was put into a slot
  module _ (slot : Option (List ℕ)) (set : (q : List ℕ) → g q ≡ cond (is_at k q) (Some slot) (f q)) where
    pub put_held : (keys : List (List ℕ)) → among k keys ≡ true → is_held true k (Some slot) ≡ true → IsHeldBut keys f → IsHeldBut keys g
    put_held keys here new held q = ap (is_held (among q keys) q) (set q) ∙ by (is_at k q) refl
      where
        by : (c : Bool) → is_at k q ≡ c → is_held (among q keys) q (cond c (Some slot) (f q)) ≡ true
        by true at = subst (λ p. is_held (among p keys) p (Some slot) ≡ true) (same_key k q at) (ap (λ b. is_held b k (Some slot)) here ∙ new)
        by false at = held q

  -- an empty slot was taken away
  module _ (set : (q : List ℕ) → g q ≡ cond (is_at k q) None (f q)) where
    pub swept_rows : is_empty (f k) ≡ true → contents g ≡ contents f
    swept_rows empty = λ i q. at q i
      where
        none : (slot : Slot) → is_empty slot ≡ true → None ≡ content slot
        none None h = refl
        none (Some None) h = refl
        none (Some (Some row)) h = absurd (false≢true h)

        by : (q : List ℕ) (c : Bool) → is_at k q ≡ c → content (cond c None (f q)) ≡ content (f q)
        by q true at = none (f k) empty ∙ ap (λ p. content (f p)) (same_key k q at)
        by q false at = refl

        at : (q : List ℕ) → content (g q) ≡ content (f q)
        at q = ap content (set q) ∙ by q (is_at k q) refl

    pub swept_held : (keys : List (List ℕ)) → IsHeldBut (k ∷ keys) f → IsHeldBut keys g
    swept_held keys held q = ap (is_held (among q keys) q) (set q) ∙ by (is_at k q) refl
      where
        by : (c : Bool) → is_at k q ≡ c → is_held (among q keys) q (cond c None (f q)) ≡ true
        by true at = refl
        by false at = ap (λ b. is_held (b || among q keys) q (f q)) (sym at) ∙ held q

-- a slot that is not empty is held as well
pub kept_held : (f : Slotted) (k : List ℕ) (keys : List (List ℕ)) → is_empty (f k) ≡ false → IsHeldBut (k ∷ keys) f → IsHeldBut keys f
kept_held f k keys full held q = by (is_at k q) refl (held q)
  where
    full_held : (slot : Slot) (b : Bool) → is_empty slot ≡ false → is_held true q slot ≡ true → is_held b q slot ≡ true
    full_held None b h is = refl
    full_held (Some None) b h is = absurd (true≢false h)
    full_held (Some (Some row)) b h is = is

    by : (c : Bool) → is_at k q ≡ c → is_held (is_at k q || among q keys) q (f q) ≡ true → is_held (among q keys) q (f q) ≡ true
    by true at is = full_held (f q) (among q keys) (ap (λ p. is_empty (f p)) (sym (same_key k q at)) ∙ full) (ap (λ b. is_held (b || among q keys) q (f q)) (sym at) ∙ is)
    by false at is = ap (λ b. is_held (b || among q keys) q (f q)) (sym at) ∙ is

-- ---- loops

pub next_left : (changes : List Change) (i : ℕ) (x : Change) → i < length changes → x ≡ get_or changes i x → drop i changes ≡ x ∷ drop (i + 1) changes
next_left changes i x within is =
    at_drop_more (λ (left : List Change). left) changes i x within ∙ ap (λ (y : Change). y ∷ drop (i + 1) changes) (sym is)

pub none_left : (changes : List Change) (i : ℕ) → length changes ≤ i → drop i changes ≡ []
none_left [] zero le = refl
none_left [] (suc i) le = refl
none_left (c ∷ cs) zero le = absurd (omega (arith, le))
none_left (c ∷ cs) (suc i) le = none_left cs i (omega (arith, le))

-- the key of a change is among those of all
pub is_among : (changes : List Change) (i : ℕ) (x : Change) → i < length changes → x ≡ get_or changes i x → among (key_of x) (keys_of changes) ≡ true
is_among [] i x within is = absurd (omega (arith, within))
is_among (c ∷ cs) zero x within is =
    or_left (is_at (key_of c) (key_of x)) (among (key_of x) (keys_of cs)) (ap (λ (y : Change). is_at (key_of c) (key_of y)) is ∙ at_itself (key_of c))
is_among (c ∷ cs) (suc i) x within is =
    or_right (is_at (key_of c) (key_of x)) (among (key_of x) (keys_of cs)) (is_among cs i x (omega (arith, within)) is)

outcome_key : (x : Change) → (outcome_of x).0 ≡ key_of x
outcome_key (change.Put key row) = refl
outcome_key (change.Drop key) = refl

all_further : (k : List ℕ) (keys : List (List ℕ)) (os : List (List ℕ × Option (List ℕ))) → AreAmong keys os → AreAmong (k ∷ keys) os
all_further k keys [] h = tt
all_further k keys (o ∷ os) h = (or_right (is_at k o.0) (among o.0 keys) h.0, all_further k keys os h.1)

pub all_among : (changes : List Change) → AreAmong (keys_of changes) (outcomes_of changes)
all_among [] = tt
all_among (c ∷ cs) =
    (or_left (is_at (key_of c) (outcome_of c).0) (among (outcome_of c).0 (keys_of cs)) (ap (is_at (key_of c)) (outcome_key c) ∙ at_itself (key_of c)), all_further (key_of c) (keys_of cs) (outcomes_of cs) (all_among cs))

abbrev Within : Slotted → Slotted → Type 0
Within f g = (q : List ℕ) → HasSlot f q → HasSlot g q

pub room_turn : (f g : Slotted) (changes : List Change) (i : ℕ) (x : Change) → i < length changes → x ≡ get_or changes i x → Within f g → HasSlot g (key_of x)
    → ((slots : Slotted) → Within f slots → HaveSlots slots (outcomes_of (drop i changes)) → HaveSlots slots (outcomes_of changes))
    → (slots : Slotted) → Within g slots → HaveSlots slots (outcomes_of (drop (i + 1) changes)) → HaveSlots slots (outcomes_of changes)
room_turn f g changes i x within is stays has before slots more rest =
    let first : HasSlot slots (outcome_of x).0 = subst (HasSlot slots) (sym (outcome_key x)) (more (key_of x) has) in
    before slots (λ q h. more q (stays q h)) (subst (λ (left : List Change). HaveSlots slots (outcomes_of left)) (sym (next_left changes i x within is)) (first, rest))

pub all_stay : (f g : Slotted) → Within f g → (os : List (List ℕ × Option (List ℕ))) → HaveSlots f os → HaveSlots g os
all_stay f g stays [] h = tt
all_stay f g stays (o ∷ os) h = (stays o.0 h.0, all_stay f g stays os h.1)

pub held_push : (os : List (List ℕ × Option (List ℕ))) (o : List ℕ × Option (List ℕ)) → AreHeld os → is_held true o.0 (Some o.1) ≡ true → AreHeld (os ++ o ∷ [])
held_push [] o h new = (new, tt)
held_push (p ∷ os) o h new = (h.0, held_push os o h.1 new)

pub puts_parts : (c : Change) (cs : List Change) → ArePutsFit (c ∷ cs) → ArePutsFit (c ∷ []) × ArePutsFit cs
puts_parts (change.Put key row) cs h = ((h.0, tt), h.1)
puts_parts (change.Drop key) cs h = (tt, h)

-- ---- whole commits

pub outcomes_are : (rows : Rows) (changes : List Change) → with_outcomes rows (outcomes_of changes) ≡ after rows changes
outcomes_are rows [] = refl
outcomes_are rows (change.Put key row ∷ cs) = outcomes_are (with_row rows key (Some row)) cs
outcomes_are rows (change.Drop key ∷ cs) = outcomes_are (with_row rows key None) cs

-- where no slot is empty, none is but those of these keys
pub held_weaker : (f : Slotted) (keys : List (List ℕ)) → IsHeldBut [] f → IsHeldBut keys f
held_weaker f keys held q = by (f q) (held q)
  where
    by : (slot : Slot) → is_held false q slot ≡ true → is_held (among q keys) q slot ≡ true
    by None h = refl
    by (Some None) h = absurd (false≢true h)
    by (Some (Some row)) h = h

-- one more change with what it leaves
pub outcomes_turn : (os new : List (List ℕ × Option (List ℕ))) (o : List ℕ × Option (List ℕ)) (changes : List Change) (i : ℕ) (x : Change) → i < length changes → x ≡ get_or changes i x → new ≡ os ++ o ∷ [] → o ≡ outcome_of x
    → os ++ outcomes_of (drop i changes) ≡ outcomes_of changes → new ++ outcomes_of (drop (i + 1) changes) ≡ outcomes_of changes
outcomes_turn os new o changes i x within is pushed outcome so_far =
    ap (λ (l : List (List ℕ × Option (List ℕ))). l ++ outcomes_of (drop (i + 1) changes)) pushed
    ∙ append_assoc os (o ∷ []) (outcomes_of (drop (i + 1) changes))
    ∙ ap (λ (p : List ℕ × Option (List ℕ)). os ++ p ∷ outcomes_of (drop (i + 1) changes)) outcome
    ∙ ap (λ (left : List Change). os ++ outcomes_of left) (sym (next_left changes i x within is))
    ∙ so_far

pub on_ok : {A E : Type 0} (r : Result A E) (P Q : Type 0) → (P → Q) → OnOk r P → OnOk r Q
on_ok (Ok x) P Q turn h = turn h
on_ok (Err e) P Q turn h = h

-- ---- the next row

not_both : (r s : Ordering) → s ≡ ordering_reverse r → is_gt r ≡ false → is_lt s ≡ true → ⊥
not_both Less s e g l = false≢true (sym (ap is_lt e) ∙ l)
not_both Equal s e g l = false≢true (sym (ap is_lt e) ∙ l)
not_both Greater s e g l = true≢false g

less_from : (o : Ordering) → is_lt o ≡ true → o ≡ Less
less_from Less h = refl
less_from Equal h = absurd (false≢true h)
less_from Greater h = absurd (false≢true h)

none_or : (o : Slot) → (IsSome o → ⊥) → content o ≡ None
none_or None h = refl
none_or (Some x) h = absurd (h refl)

pub next_row : (m : BTreeMap (List ℕ) (Option (List ℕ))) (a k : List ℕ) (slot : Option (List ℕ)) (row : List ℕ) (rest : List (List ℕ × Option (List ℕ))) → IsRangeOf (slice_cmp nat_cmp) (Excluded a) Unbounded m ((k, slot) ∷ rest) → slot ≡ Some row
    → table_of k ≡ table_of a → IsNextRow a (rows_in m) (Some (k, row))
next_row m a k slot row rest r is table = (
  record { table = table; above = ap is_lt r.1.0.0 },
  ap content r.1.1 ∙ is,
  λ q above below. none_or (slots_in m q) (λ some. not_both (slice_cmp nat_cmp k q) (slice_cmp nat_cmp q k) (nat_list_cmp_total.antisymm q k) (r.2 q (less_from (slice_cmp nat_cmp a q) above.above, tt) some) below),
)
