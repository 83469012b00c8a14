-- A list whose digests each are below the next ascends strictly.
use Rattle.std.proofs.Common.{◌≡◌, ℕ, zero, suc, ◌+◌, ◌<◌, ◌≤◌, Bool, true, false, List, [], ◌∷◌, length, map, get_or, refl, sym, ap, subst, ◌∙◌, true≢false, add-one, arith}
use Rattle.std.specs.Prelude.{IsTrue, ◌↔◌}
use Rattle.std.specs.List.{IsAllAdjacentAnswer}
use Rattle.std.specs.List.Sorted.{IsStrictlySortedBy}
use Rattle.std.specs.Ordering.{nat_cmp, is_lt}
use Rattle.std.specs.declared.cmp.Ordering.{Ordering}
use Rattle.std.specs.declared.cmp.Ordering.TheVariants.{Less, Equal, Greater}
use Rattle.std.specs.Cmp.Lexicographic.{slice_cmp, nat_list_cmp_total}
use Rattle.std.proofs.Math.ListN.{get_or-map}
use Rattle.std.proofs.lemmas.List.{length-map}
use Rattle.std.proofs.lemmas.Map.Keys.{sorted_from_all_adjacent}
use Rattle.reg_names.specs.Named.{AscendStrictly}
use Rattle.reg_entries.specs.Documents.{list_limit, IsDigestList}

-- whether an item's digest is below another's
abbrev pub is_before : {X : Type 0} → (X → List ℕ) → X → X → Bool
is_before digest_of x y = is_lt (slice_cmp nat_cmp (digest_of x) (digest_of y))

less : (o : Ordering) → true ≡ is_lt o → o ≡ Less
less Less h = refl
less Equal h = absurd (true≢false h)
less Greater h = absurd (true≢false h)

not_less : (o : Ordering) → o ≡ Less → false ≡ is_lt o → ⊥
not_less o h k = true≢false (sym (k ∙ ap is_lt h))

-- each digest of a list that ascends is below the next
next : (ds : List (List ℕ)) (k : ℕ) (d : List ℕ) → AscendStrictly ds → k + 1 < length ds → slice_cmp nat_cmp (get_or ds k d) (get_or ds (suc k) d) ≡ Less
unfolding IsStrictlySortedBy
next (x ∷ y ∷ ds) zero d up within = up.0.0
next (x ∷ ds) (suc k) d up within = next ds k d up.1 (omega arith)
next (x ∷ []) zero d up within = absurd (omega arith)
next [] k d up within = absurd (omega arith)

adjacent : (ds : List (List ℕ)) (k : ℕ) (d : List ℕ) → AscendStrictly ds → k + 1 < length ds → slice_cmp nat_cmp (get_or ds k d) (get_or ds (k + 1) d) ≡ Less
adjacent ds k d up within = rw (add-one k) (next ds k d up within)

module _ {X : Type 0} (f : X → List ℕ) where
  at : (xs : List X) (k : ℕ) (d : X) → slice_cmp nat_cmp (get_or (map f xs) k (f d)) (get_or (map f xs) (k + 1) (f d)) ≡ slice_cmp nat_cmp (f (get_or xs k d)) (f (get_or xs (k + 1) d))
  at xs k d = rw (get_or-map f xs k d, get_or-map f xs (k + 1) d) refl

  rising : (xs : List X) → ((k : ℕ) (d : X) → k + 1 < length xs → true ≡ is_before f (get_or xs k d) (get_or xs (k + 1) d)) → AscendStrictly (map f xs)
  unfolding IsStrictlySortedBy
  rising [] h = tt
  rising (x ∷ xs) h =
      sorted_from_all_adjacent nat_list_cmp_total (map f (x ∷ xs)) (f x) (λ k within. at (x ∷ xs) k x ∙ less _ (h k x (subst (λ n. k + 1 < n) (length-map (x ∷ xs) f) within)))

  falling : (xs : List X) (k : ℕ) → k + 1 < length xs → ((d : X) → false ≡ is_before f (get_or xs k d) (get_or xs (k + 1) d)) → AscendStrictly (map f xs) → ⊥
  falling [] k within h up = omega arith
  falling (x ∷ xs) k within h up =
      not_less _ (sym (at (x ∷ xs) k x) ∙ adjacent (map f (x ∷ xs)) k (f x) up (subst (λ n. k + 1 < n) (sym (length-map (x ∷ xs) f)) within)) (h x)

  -- what it is for each item's digest to be below the next one's
  pub sorted_is : (xs : List X) (r : Bool) → IsAllAdjacentAnswer (λ x y b. b ≡ is_before f x y) xs r → IsTrue r ↔ AscendStrictly (map f xs)
  sorted_is xs true h = (λ _. rising xs h, λ _. refl)
  sorted_is xs false h = (λ t. absurd (true≢false (sym t)), λ up. absurd (falling xs h.0 h.1 h.2 up))

  -- and for them to be no more than a list may have
  pub list_is : (xs : List X) (r : Bool) → length xs ≤ list_limit → IsAllAdjacentAnswer (λ x y b. b ≡ is_before f x y) xs r → IsTrue r ↔ IsDigestList (map f xs)
  list_is xs r few h =
      let s = sorted_is xs r h in
      (λ t. record { ascending = s.0 t; few = subst (λ n. n ≤ list_limit) (sym (length-map xs f)) few }, λ l. s.1 l.ascending)
