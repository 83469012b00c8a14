-- The scan of a name is its grammar by productions.
use Rattle.std.proofs.Common.{◌≡◌, ◌↔◌, ℕ, Bool, ◌&&◌, ◌||◌, ◌==◌, List, [], ◌∷◌, ◌++◌, inl, inr, refl, sym, ap, ◌∙◌, arith}
use Rattle.std.specs.Prelude.{IsTrue}
use Rattle.std.proofs.lemmas.Bool.{and_parts, and_from, or_cases, cond_both, cond-true, cond-false, eqb-true, leb-true, le-leb}
use Rattle.std.proofs.lemmas.Bool.Decides.{nat_tests}
use Rattle.std.proofs.lemmas.List.{append_assoc, append-nil}
use Rattle.reg_names.specs.Names.{is_alphanumeric, begins, goes_on, underscored, dashed, IsName, IsWord, last, more, AreDashes, one, another, IsSeparator, dot, underscore, underscores, dashes, IsComponent, word, joined, AreComponents, component, under, IsRepositoryName}

-- ---- what the scan takes has a derivation

-- a letter before a component, and before components
component-more : (b : ℕ) (c : List ℕ) → IsTrue (is_alphanumeric b) → IsComponent c → IsComponent (b ∷ c)
component-more b _ l (word w h) = word (b ∷ w) (more b w l h)
component-more b _ l (joined w s c h i j) = joined (b ∷ w) s c (more b w l h) i j

components-more : (b : ℕ) (cs : List ℕ) → IsTrue (is_alphanumeric b) → AreComponents cs → AreComponents (b ∷ cs)
components-more b _ l (component c h) = component (b ∷ c) (component-more b c l h)
components-more b _ l (under c cs h i) = under (b ∷ c) cs (component-more b c l h) i

-- a letter and a separator before components
components-joined : (b : ℕ) (s cs : List ℕ) → IsTrue (is_alphanumeric b) → IsSeparator s → AreComponents cs → AreComponents (b ∷ (s ++ cs))
components-joined b s _ l i (component c h) = component (b ∷ (s ++ c)) (joined (b ∷ []) s c (last b l) i h)
components-joined b s _ l i (under c cs h j) = rw (← append_assoc s c (47 ∷ cs)) (under (b ∷ (s ++ c)) cs (joined (b ∷ []) s c (last b l) i h) j)

-- behind a dash: dashes, and then components
record AfterDash (bs : List ℕ) : Type 0 where
  more_dashes : List ℕ
  rest : List ℕ
  parts : bs ≡ more_dashes ++ rest
  are_dashes : AreDashes (45 ∷ more_dashes)
  are_components : AreComponents rest

-- what each state of the scan shows of the bytes to come
record Derived (bs : List ℕ) : Type 0 where
  from_begin : IsTrue (begins bs) → AreComponents bs
  from_letter : (b : ℕ) → IsTrue (is_alphanumeric b) → IsTrue (goes_on bs) → AreComponents (b ∷ bs)
  from_underscore : (b : ℕ) → IsTrue (is_alphanumeric b) → IsTrue (underscored bs) → AreComponents (b ∷ 95 ∷ bs)
  from_dash : IsTrue (dashed bs) → AfterDash bs

module _ (x : ℕ) (xs : List ℕ) (to_come : Derived xs) where
  begins-derived : IsTrue (begins (x ∷ xs)) → AreComponents (x ∷ xs)
  begins-derived h = let p = and_parts (is_alphanumeric x) (goes_on xs) h in to_come.from_letter x p.0 p.1

  goes_on-derived : (b : ℕ) → IsTrue (is_alphanumeric b) → IsTrue (goes_on (x ∷ xs)) → AreComponents (b ∷ x ∷ xs)
  goes_on-derived b l =
      let Takes : Bool → Type 0 = λ v. IsTrue v → AreComponents (b ∷ x ∷ xs) in
      cond_both (is_alphanumeric x) (goes_on xs) _ Takes
      (λ e h. components-more b (x ∷ xs) l (to_come.from_letter x e h))
      (λ _. cond_both (x == 47 || x == 46) (begins xs) _ Takes
      (λ e h. elim (or_cases (x == 47) (x == 46) e) [
        | inl slash ↦ rw (eqb-true x 47 slash) (under (b ∷ []) xs (word (b ∷ []) (last b l)) (to_come.from_begin h))
        | inr point ↦ rw (eqb-true x 46 point) (components-joined b (46 ∷ []) xs l dot (to_come.from_begin h))
      ])
      (λ _. cond_both (x == 95) (underscored xs) _ Takes
      (λ e h. rw (eqb-true x 95 e) (to_come.from_underscore b l h))
      (λ _ h.
      let p = and_parts (x == 45) (dashed xs) h in
      let d = to_come.from_dash p.1 in
      rw (eqb-true x 45 p.0, d.parts) (components-joined b (45 ∷ d.more_dashes) d.rest l (dashes _ d.are_dashes) d.are_components))))

  underscored-derived : (b : ℕ) → IsTrue (is_alphanumeric b) → IsTrue (underscored (x ∷ xs)) → AreComponents (b ∷ 95 ∷ x ∷ xs)
  underscored-derived b l =
      cond_both (x == 95) (begins xs) (is_alphanumeric x && goes_on xs) (λ v. IsTrue v → AreComponents (b ∷ 95 ∷ x ∷ xs))
      (λ e h. rw (eqb-true x 95 e) (components-joined b (95 ∷ 95 ∷ []) xs l underscores (to_come.from_begin h)))
      (λ _ h. components-joined b (95 ∷ []) (x ∷ xs) l underscore (begins-derived h))

  dashed-derived : IsTrue (dashed (x ∷ xs)) → AfterDash (x ∷ xs)
  dashed-derived =
      cond_both (x == 45) (dashed xs) (is_alphanumeric x && goes_on xs) (λ v. IsTrue v → AfterDash (x ∷ xs))
      (λ e h.
      let d = to_come.from_dash h in record {
        more_dashes = 45 ∷ d.more_dashes;
        rest = d.rest;
        parts = rw (eqb-true x 45 e) (ap (λ ys. 45 ∷ ys) d.parts);
        are_dashes = another (45 ∷ d.more_dashes) d.are_dashes;
        are_components = d.are_components;
      })
      (λ _ h. record { more_dashes = []; rest = x ∷ xs; parts = refl; are_dashes = one; are_components = begins-derived h })

derived : (bs : List ℕ) → Derived bs
derived [] = record {
  from_begin = λ h. cc h;
  from_letter = λ b l _. component (b ∷ []) (word (b ∷ []) (last b l));
  from_underscore = λ b l h. cc h;
  from_dash = λ h. cc h;
}
derived (x ∷ xs) = record {
  from_begin = begins-derived x xs (derived xs);
  from_letter = goes_on-derived x xs (derived xs);
  from_underscore = underscored-derived x xs (derived xs);
  from_dash = dashed-derived x xs (derived xs);
}

-- ---- what has a derivation is taken: the scan passes over each production

goes_on-word : (w t : List ℕ) → IsWord w → goes_on (w ++ t) ≡ goes_on t
goes_on-word _ t (last b l) = cond-true (is_alphanumeric b) _ _ l
goes_on-word _ t (more b bs l h) = cond-true (is_alphanumeric b) _ _ l ∙ goes_on-word bs t h

begins-word : (w t : List ℕ) → IsWord w → begins (w ++ t) ≡ goes_on t
begins-word _ t (last b l) = ap (λ v. v && goes_on t) l
begins-word _ t (more b bs l h) = ap (λ v. v && goes_on (bs ++ t)) l ∙ goes_on-word bs t h

-- a letter first
record IsLed (bs : List ℕ) : Type 0 where
  letter : ℕ
  rest : List ℕ
  is : bs ≡ letter ∷ rest
  alphanumeric : IsTrue (is_alphanumeric letter)

IsLed-append : (bs t : List ℕ) → IsLed bs → IsLed (bs ++ t)
IsLed-append bs t h = record { letter = h.letter; rest = h.rest ++ t; is = ap (λ ys. ys ++ t) h.is; alphanumeric = h.alphanumeric }

IsLed-word : (w : List ℕ) → IsWord w → IsLed w
IsLed-word _ (last b l) = record { letter = b; rest = []; is = refl; alphanumeric = l }
IsLed-word _ (more b bs l h) = record { letter = b; rest = bs; is = refl; alphanumeric = l }

IsLed-component : (c : List ℕ) → IsComponent c → IsLed c
IsLed-component _ (word w h) = IsLed-word w h
IsLed-component _ (joined w s c h i j) = IsLed-append w (s ++ c) (IsLed-word w h)

underscored-letter : (b : ℕ) (bs : List ℕ) → IsTrue (is_alphanumeric b) → underscored (b ∷ bs) ≡ begins (b ∷ bs)
underscored-letter b bs l = cond-false (b == 95) _ _ (grind (arith, nat_tests))

dashed-letter : (b : ℕ) (bs : List ℕ) → IsTrue (is_alphanumeric b) → dashed (b ∷ bs) ≡ begins (b ∷ bs)
dashed-letter b bs l = cond-false (b == 45) _ _ (grind (arith, nat_tests))

dashed-dashes : (ds t : List ℕ) → AreDashes ds → dashed (ds ++ t) ≡ dashed t
dashed-dashes _ t one = refl
dashed-dashes _ t (another ds h) = dashed-dashes ds t h

goes_on-dashes : (ds t : List ℕ) → AreDashes ds → goes_on (ds ++ t) ≡ dashed t
goes_on-dashes _ t one = refl
goes_on-dashes _ t (another ds h) = dashed-dashes ds t h

goes_on-separator : (s bs : List ℕ) → IsSeparator s → IsLed bs → goes_on (s ++ bs) ≡ begins bs
goes_on-separator _ bs dot led = refl
goes_on-separator _ bs underscore led = rw led.is (underscored-letter led.letter led.rest led.alphanumeric)
goes_on-separator _ bs underscores led = refl
goes_on-separator _ bs (dashes ds h) led = goes_on-dashes ds bs h ∙ rw led.is (dashed-letter led.letter led.rest led.alphanumeric)

begins-component : (c t : List ℕ) → IsComponent c → begins (c ++ t) ≡ goes_on t
begins-component _ t (word w h) = begins-word w t h
begins-component _ t (joined w s c h i j) =
    rw (append_assoc w (s ++ c) t, append_assoc s c t)
    (begins-word w (s ++ (c ++ t)) h ∙ goes_on-separator s (c ++ t) i (IsLed-append c t (IsLed-component c j)) ∙ begins-component c t j)

begins-components : (cs : List ℕ) → AreComponents cs → IsTrue (begins cs)
begins-components _ (component c h) = ap begins (sym (append-nil c)) ∙ begins-component c [] h
begins-components _ (under c cs h i) = begins-component c (47 ∷ cs) h ∙ begins-components cs i

-- ---- the law

pub IsName-grammar : (text : List ℕ) → IsName text ↔ IsRepositoryName text
IsName-grammar text = (
  λ h.
      let p = and_parts _ (begins text) h in
      record { short = leb-true _ _ p.0; components = (derived text).from_begin p.1 },
  λ h. and_from _ (begins text) (le-leb _ _ h.short) (begins-components text h.components),
)
