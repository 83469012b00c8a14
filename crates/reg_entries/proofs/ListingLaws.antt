-- The tags of a repository in byte order: there is one list of them.
use Rattle.std.proofs.Common.{◌≡◌, ℕ, zero, suc, ◌<◌, Bool, true, false, List, [], ◌∷◌, ◌++◌, length, length-append, ◌≤◌, nat_eq, Option, Some, None, refl, sym, ap, subst, ◌∙◌, true≢false, arith}
use Rattle.std.specs.Prelude.{◌||◌, IsSome, IfSome, is_some}
use Rattle.std.specs.List.{list_any}
use Rattle.std.specs.Option.{option_eq}
use Rattle.std.specs.declared.cmp.Ordering.{Ordering}
use Rattle.std.specs.declared.cmp.Ordering.TheVariants.{Less, Equal, Greater}
use Rattle.std.specs.Ordering.{nat_cmp, is_lt, is_eq, ordering_reverse}
use Rattle.std.specs.Cmp.Lexicographic.{slice_cmp, pointwise, same_text, texts_ties, nat_list_cmp_total, nat_list_eq_equiv}
use Rattle.reg_entries.specs.State.{State}
use Rattle.reg_entries.specs.Listing.{is_lesser, is_behind, IsNextTag, AreNextTags, last_of, IsListing}

less_from : (o : Ordering) → is_lt o ≡ true → o ≡ Less
less_from Less h = refl
less_from Equal h = absurd (true≢false (sym h))
less_from Greater h = absurd (true≢false (sym h))

lesser_trans : (t u v : List ℕ) → is_lesser t u ≡ true → is_lesser u v ≡ true → is_lesser t v ≡ true
lesser_trans t u v h k = ap is_lt (nat_list_cmp_total.trans t u v (less_from (slice_cmp nat_cmp t u) h) (less_from (slice_cmp nat_cmp u v) k))

pub behind_trans : (after : Option (List ℕ)) (t u : List ℕ) → is_behind after t ≡ true → is_lesser t u ≡ true → is_behind after u ≡ true
behind_trans None t u h k = refl
behind_trans (Some a) t u h k = lesser_trans a t u h k

-- of two texts that are not one, one is the lesser
by_order : {X : Type 0} (t u : List ℕ) → (is_lesser t u ≡ true → X) → (t ≡ u → X) → (is_lesser u t ≡ true → X) → X
by_order {X} t u less same greater = by (slice_cmp nat_cmp t u) refl
  where
    by : (o : Ordering) → slice_cmp nat_cmp t u ≡ o → X
    by Less e = less (ap is_lt e)
    by Equal e = same (same_text t u (sym (texts_ties t u ∙ ap is_eq e)))
    by Greater e = greater (ap is_lt (nat_list_cmp_total.antisymm u t ∙ ap ordering_reverse e))

not_itself : (t : List ℕ) → is_lesser t t ≡ false
not_itself t = by (slice_cmp nat_cmp t t) refl
  where
    by : (o : Ordering) → slice_cmp nat_cmp t t ≡ o → is_lt o ≡ false
    by Less e = absurd (true≢false (sym (nat_list_eq_equiv.refl t) ∙ texts_ties t t ∙ ap is_eq e))
    by Equal e = refl
    by Greater e = refl

some_and_none : {A : Type 0} (o : Option A) → IsSome o → o ≡ None → ⊥
some_and_none o h e = true≢false (sym h ∙ ap is_some e)

module _ (state : State) (name : List ℕ) where
  next_alone : (after : Option (List ℕ)) (t u : List ℕ) → IsNextTag state name after (Some t) → IsNextTag state name after (Some u) → t ≡ u
  next_alone after t u h k =
      by_order t u
      (λ less. absurd (some_and_none (state.tags name t) h.1 (k.2 t h.0 less)))
      (λ e. e)
      (λ less. absurd (some_and_none (state.tags name u) k.1 (h.2 u k.0 less)))

  next_and_none : (after : Option (List ℕ)) (t : List ℕ) → IsNextTag state name after (Some t) → IsNextTag state name after None → ⊥
  next_and_none after t h ended = some_and_none (state.tags name t) h.1 (ended t h.0)

  -- two lists that end with the last tag are one
  whole_alone : (after : Option (List ℕ)) (one two : List (List ℕ)) → AreNextTags state name after one → AreNextTags state name after two → IsNextTag state name (last_of after one) None → IsNextTag state name (last_of after two) None → one ≡ two
  whole_alone after [] [] h k e f = refl
  whole_alone after [] (u ∷ us) h k e f = absurd (next_and_none after u k.0 e)
  whole_alone after (t ∷ ts) [] h k e f = absurd (next_and_none after t h.0 f)
  whole_alone after (t ∷ ts) (u ∷ us) h k e f =
      let same = next_alone after t u h.0 k.0 in
      ap (λ x. x ∷ ts) same ∙ ap (λ xs. u ∷ xs) (whole_alone (Some u) ts us (subst (λ x. AreNextTags state name (Some x) ts) same h.1) k.1 (subst (λ x. IsNextTag state name (last_of (Some x) ts) None) same e) f)

  -- two lists of one length are one
  long_alone : (after : Option (List ℕ)) (one two : List (List ℕ)) → AreNextTags state name after one → AreNextTags state name after two → length one ≡ length two → one ≡ two
  long_alone after [] [] h k e = refl
  long_alone after [] (u ∷ us) h k e = absurd (omega (arith, e))
  long_alone after (t ∷ ts) [] h k e = absurd (omega (arith, e))
  long_alone after (t ∷ ts) (u ∷ us) h k e =
      let same = next_alone after t u h.0 k.0 in
      ap (λ x. x ∷ ts) same ∙ ap (λ xs. u ∷ xs) (long_alone (Some u) ts us (subst (λ x. AreNextTags state name (Some x) ts) same h.1) k.1 (omega (arith, e)))

  -- one behind which another tag follows is shorter than one that ends with the last
  cut_shorter : (after : Option (List ℕ)) (one two : List (List ℕ)) (next : List ℕ) → AreNextTags state name after one → AreNextTags state name after two → IsNextTag state name (last_of after one) None → IsNextTag state name (last_of after two) (Some next) → length two < length one
  cut_shorter after [] [] next h k e f = absurd (next_and_none after next f e)
  cut_shorter after [] (u ∷ us) next h k e f = absurd (next_and_none after u k.0 e)
  cut_shorter after (t ∷ ts) [] next h k e f = omega arith
  cut_shorter after (t ∷ ts) (u ∷ us) next h k e f =
      let same = next_alone after t u h.0 k.0 in
      let rest = cut_shorter (Some u) ts us next (subst (λ x. AreNextTags state name (Some x) ts) same h.1) k.1 (subst (λ x. IsNextTag state name (last_of (Some x) ts) None) same e) f in
      omega (arith, rest)

  pub listing_alone : (most : Option ℕ) (last : Option (List ℕ)) (one two : List (List ℕ)) (more follow : Option ℕ) → IsListing state name most last one more → IsListing state name most last two follow → (one ≡ two) × (more ≡ follow)
  listing_alone (Some zero) last one two more follow h k = (h.0 ∙ sym k.0, h.1 ∙ sym k.1)
  listing_alone (Some (suc m)) last one two None None h k = (whole_alone last one two h.0 k.0 h.1 k.1, refl)
  listing_alone (Some (suc m)) last one two None (Some n) h k =
      let shorter = cut_shorter last one two k.1.0 h.0 k.0 h.1 k.1.1 in
      let same : suc m ≡ n = cc k.2 in
      absurd (omega (arith, shorter, h.2, k.3, same))
  listing_alone (Some (suc m)) last one two (Some n) None h k =
      let shorter = cut_shorter last two one h.1.0 k.0 h.0 k.1 h.1.1 in
      let same : suc m ≡ n = cc h.2 in
      absurd (omega (arith, shorter, k.2, h.3, same))
  listing_alone (Some (suc m)) last one two (Some n) (Some p) h k =
      let same : n ≡ p = cc (h.2, k.2) in
      (long_alone last one two h.0 k.0 (h.3 ∙ same ∙ sym k.3), ap Some same)
  listing_alone None last one two None None h k = (whole_alone last one two h.0 k.0 h.1 k.1, refl)
  listing_alone None last one two None (Some n) h k = absurd (cc k.2)
  listing_alone None last one two (Some n) follow h k = absurd (cc h.2)

  -- ---- members

  -- what is behind the last of some tags is behind the text from which on they follow each other
  pub behind_all : (last : Option (List ℕ)) (tags : List (List ℕ)) (t : List ℕ) → AreNextTags state name last tags → is_behind (last_of last tags) t ≡ true → is_behind last t ≡ true
  behind_all last [] t chain h = h
  behind_all last (u ∷ us) t chain h = behind_trans last u t chain.0.0 (behind_all (Some u) us t chain.1 h)

  is_false : (b : Bool) → (b ≡ true → ⊥) → b ≡ false
  is_false true h = absurd (h refl)
  is_false false h = refl

  pub member : (last : Option (List ℕ)) (tags : List (List ℕ)) (t : List ℕ) → AreNextTags state name last tags → list_any (pointwise nat_eq t) tags ≡ true → IsSome (state.tags name t) × (is_behind last t ≡ true) × (is_behind (last_of last tags) t ≡ false)
  member last [] t chain h = absurd (true≢false (sym h))
  member last (u ∷ us) t chain h = by (pointwise nat_eq t u) refl h (λ k. member (Some u) us t chain.1 k)
    where
      by : (b : Bool) → pointwise nat_eq t u ≡ b → (b || list_any (pointwise nat_eq t) us) ≡ true
          → (list_any (pointwise nat_eq t) us ≡ true → IsSome (state.tags name t) × (is_behind (Some u) t ≡ true) × (is_behind (last_of (Some u) us) t ≡ false))
          → IsSome (state.tags name t) × (is_behind last t ≡ true) × (is_behind (last_of (Some u) us) t ≡ false)
      by true e k later =
          let same = same_text t u (sym e) in (
            subst (λ x. IsSome (state.tags name x)) (sym same) chain.0.1,
            subst (λ x. is_behind last x ≡ true) (sym same) chain.0.0,
            is_false (is_behind (last_of (Some u) us) t) (λ j. true≢false (sym (behind_all (Some u) us t chain.1 j) ∙ ap (is_lesser u) same ∙ not_itself u)),
          )
      by false e k later =
          let rest = later k in
          (rest.0, behind_trans last u t chain.0.0 rest.1, rest.2)

  pub has_member : (last : Option (List ℕ)) (tags : List (List ℕ)) (t : List ℕ) → AreNextTags state name last tags → IsSome (state.tags name t) → is_behind last t ≡ true → is_behind (last_of last tags) t ≡ false → list_any (pointwise nat_eq t) tags ≡ true
  has_member last [] t chain some behind before = absurd (true≢false (sym behind ∙ before))
  has_member last (u ∷ us) t chain some behind before =
      by_order t u
      (λ less. absurd (some_and_none (state.tags name t) some (chain.0.2 t behind less)))
      (λ same. here (pointwise nat_eq t u) (ap (λ x. pointwise nat_eq t x) (sym same) ∙ nat_list_eq_equiv.refl t))
      (λ greater. there (pointwise nat_eq t u) (has_member (Some u) us t chain.1 some greater before))
    where
      here : (b : Bool) → b ≡ true → (b || list_any (pointwise nat_eq t) us) ≡ true
      here true e = refl
      here false e = absurd (true≢false (sym e))

      there : (b : Bool) → list_any (pointwise nat_eq t) us ≡ true → (b || list_any (pointwise nat_eq t) us) ≡ true
      there true e = refl
      there false e = e

-- ---- tags that follow each other

pub last_pushed : (last : Option (List ℕ)) (found : List (List ℕ)) (u : List ℕ) → last_of last (found ++ u ∷ []) ≡ Some u
last_pushed last [] u = refl
last_pushed last (t ∷ ts) u = last_pushed (Some t) ts u

pub next_pushed : (state : State) (name : List ℕ) (last : Option (List ℕ)) (found : List (List ℕ)) (u : List ℕ) → AreNextTags state name last found → IsNextTag state name (last_of last found) (Some u) → AreNextTags state name last (found ++ u ∷ [])
next_pushed state name last [] u chain next = (next, tt)
next_pushed state name last (t ∷ ts) u chain next = (chain.0, next_pushed state name (Some t) ts u chain.1 next)

-- ---- listings

-- there is room for one more
pub room_pushed : (most : Option ℕ) (found : List (List ℕ)) (u : List ℕ) → IfSome most (λ k. length found ≤ k) → (most ≡ Some (length found) → ⊥) → IfSome most (λ k. length (found ++ u ∷ []) ≤ k)
room_pushed None found u room short = tt
room_pushed (Some k) found u room short = grind (arith, length-append)

-- what the test of a limit tells
pub some_asked : (most : Option ℕ) (none : Bool) → none ≡ option_eq nat_eq most (Some 0) → none ≡ false → most ≡ Some 0 → ⊥
some_asked most none is fails e = true≢false (ap (λ m. option_eq nat_eq m (Some 0)) (sym e) ∙ sym is ∙ fails)

pub lists_none : (state : State) (name : List ℕ) (last : Option (List ℕ)) (most : Option ℕ) (found : List (List ℕ)) → most ≡ Some 0 → found ≡ [] → IsListing state name most last found None
lists_none state name last most found e none = subst (λ m. IsListing state name m last found None) (sym e) (none, refl)

pub lists_whole : (state : State) (name : List ℕ) (last : Option (List ℕ)) (most : Option ℕ) (found : List (List ℕ)) → (most ≡ Some 0 → ⊥) → AreNextTags state name last found → IsNextTag state name (last_of last found) None → IfSome most (λ k. length found ≤ k) → IsListing state name most last found None
lists_whole state name last None found some chain ended room = (chain, ended, room)
lists_whole state name last (Some zero) found some chain ended room = absurd (some refl)
lists_whole state name last (Some (suc k)) found some chain ended room = (chain, ended, room)

pub lists_cut : (state : State) (name : List ℕ) (last : Option (List ℕ)) (most : Option ℕ) (found : List (List ℕ)) (next : List ℕ) → (most ≡ Some 0 → ⊥) → AreNextTags state name last found → IsNextTag state name (last_of last found) (Some next) → most ≡ Some (length found) → IsListing state name most last found most
lists_cut state name last None found next some chain follows full = absurd (cc full)
lists_cut state name last (Some zero) found next some chain follows full = absurd (some refl)
lists_cut state name last (Some (suc k)) found next some chain follows full = (chain, (next, follows), refl, cc full)
