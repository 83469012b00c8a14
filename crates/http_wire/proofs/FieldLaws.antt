-- Laws of fields and of their values.
use Rattle.std.proofs.Common.{◌≡◌, ℕ, suc, ◌+◌, ◌-◌, ◌<◌, ◌≤◌, Bool, true, false, not, List, [], ◌∷◌, length, map, take, drop, get_or, refl, sym, ap, subst, ◌∙◌, arith, Option, Some, None, cond, nat_lt}
use Rattle.std.proofs.lemmas.Bool.Decides.{nat_tests}
use Rattle.std.proofs.lemmas.List.{take_rest, get_or-map}
use Rattle.std.specs.List.{position, position_or_len}
use Rattle.http_wire.specs.declared.head.Field.{Field}
use Rattle.http_wire.specs.Fields.{field_parts}
use Rattle.http_wire.specs.Framing.{is_same, values_of}
use Rattle.http_wire.specs.InnerFields.{HasMany}

-- ---- what a search for a place found

pub found_at : {v : Bool} {k first : ℕ} → cond v (Some k) None ≡ Some first → (k ≡ first) × (v ≡ true)
found_at {v = true} e = (cc, refl)
found_at {v = false} e = absurd (cc)

none_at : (v : Bool) (k : ℕ) → ◌≡◌ {A = Option ℕ} (cond v (Some k) None) None → v ≡ false
none_at true k e = absurd (cc)
none_at false k e = refl

pub not_found : (k n : ℕ) → ◌≡◌ {A = Option ℕ} (cond (nat_lt k n) (Some k) None) None → n ≤ k
not_found k n e = let past = none_at (nat_lt k n) k e in grind (arith, nat_tests)

-- ---- values by name

Placed : ℕ → List ℕ → List Field → List (List ℕ) → Type 0
Placed k name fields values =
    (k < length fields → (d : List ℕ × List ℕ) → values ≡ (get_or (map field_parts fields) k d).1 ∷ values_of name (map field_parts (drop (suc k) fields)))
    × (length fields ≤ k → values ≡ [])

step_placed : (v : Bool) (k : ℕ) (name : List ℕ) (x : Field) (fields : List Field) → Placed k name fields (values_of name (map field_parts fields))
    → Placed (cond (not v) (1 + k) 0) name (x ∷ fields) (cond v (x.value ∷ values_of name (map field_parts fields)) (values_of name (map field_parts fields)))
unfolding Placed
step_placed true k name x fields more = (λ _ d. refl, λ none. absurd (omega arith))
step_placed false k name x fields more =
    let e : suc k ≡ 1 + k = omega arith in
    subst (λ (j : ℕ). Placed j name (x ∷ fields) (values_of name (map field_parts fields))) e (λ inside d. more.0 (omega arith) d, λ past. more.1 (omega arith))

placed : (name : List ℕ) (fields : List Field) → Placed (position_or_len (λ f. is_same f.name name) fields) name fields (values_of name (map field_parts fields))
unfolding Placed
placed name [] = (λ none. absurd (omega arith), λ _. refl)
placed name (x ∷ fields) = step_placed (is_same x.name name) _ name x fields (placed name fields)

pub value_at : (name : List ℕ) (fields : List Field) (at : ℕ) → position (λ f. is_same f.name name) fields ≡ Some at → at < length fields → (d : List ℕ × List ℕ)
    → values_of name (map field_parts fields) ≡ (get_or (map field_parts fields) at d).1 ∷ values_of name (map field_parts (drop (suc at) fields))
unfolding Placed
value_at name fields at found inside d =
    let same = (found_at found).0 in
    subst (λ (k : ℕ). values_of name (map field_parts fields) ≡ (get_or (map field_parts fields) k d).1 ∷ values_of name (map field_parts (drop (suc k) fields))) same
    ((placed name fields).0 (omega arith) d)

pub no_value : (name : List ℕ) (fields : List Field) → position (λ f. is_same f.name name) fields ≡ None → values_of name (map field_parts fields) ≡ []
unfolding Placed
no_value name fields none = (placed name fields).1 (not_found _ (length fields) none)

-- the fields behind one
pub behind : (fields : List Field) (at : ℕ) → take (length fields - (at + 1)) (drop (at + 1) fields) ≡ drop (suc at) fields
behind fields at = let e : at + 1 ≡ suc at = omega arith in take_rest fields (at + 1) ∙ ap (λ (k : ℕ). drop k fields) e

-- one field of a name, or more
pub many_values : (name : List ℕ) (fields : List Field) (at next : ℕ) → position (λ f. is_same f.name name) fields ≡ Some at → at < length fields
    → position (λ f. is_same f.name name) (take (length fields - (at + 1)) (drop (at + 1) fields)) ≡ Some next
    → next < length (take (length fields - (at + 1)) (drop (at + 1) fields))
    → HasMany (values_of name (map field_parts fields))
many_values name fields at next found inside also within =
    let d : List ℕ × List ℕ = ([], []) in
    let tail = drop (suc at) fields in
    let fits : next < length tail = omega (arith, ap length (behind fields at)) in
    let others = value_at name tail next (ap (position (λ f. is_same f.name name)) (sym (behind fields at)) ∙ also) fits d in (
      (get_or (map field_parts fields) at d).1,
      (get_or (map field_parts tail) next d).1,
      values_of name (map field_parts (drop (suc next) tail)),
      value_at name fields at found inside d ∙ ap (λ (rest : List (List ℕ)). (get_or (map field_parts fields) at d).1 ∷ rest) others,
    )

pub value_of : (fields : List Field) (at : ℕ) (f : Field) → at < length fields → f ≡ get_or fields at f → (get_or (map field_parts fields) at (field_parts f)).1 ≡ f.value
value_of fields at f inside is = ap (λ (p : List ℕ × List ℕ). p.1) (get_or-map field_parts fields at f (field_parts f) inside ∙ ap field_parts (sym is))

pub first_value : (name : List ℕ) (fields : List Field) (at : ℕ) (f : Field) (value : List ℕ) → position (λ g. is_same g.name name) fields ≡ Some at → at < length fields
    → f ≡ get_or fields at f → value ≡ f.value → (rest : List (List ℕ)) × (values_of name (map field_parts fields) ≡ value ∷ rest)
first_value name fields at f value found inside is same = (
  values_of name (map field_parts (drop (suc at) fields)),
  value_at name fields at found inside (field_parts f) ∙ ap (λ (v : List ℕ). v ∷ values_of name (map field_parts (drop (suc at) fields))) (value_of fields at f inside is ∙ sym same),
)

pub only_value : (name : List ℕ) (fields : List Field) (at : ℕ) (f : Field) (value : List ℕ) → position (λ g. is_same g.name name) fields ≡ Some at → at < length fields
    → position (λ g. is_same g.name name) (take (length fields - (at + 1)) (drop (at + 1) fields)) ≡ None
    → f ≡ get_or fields at f → value ≡ f.value → values_of name (map field_parts fields) ≡ value ∷ []
only_value name fields at f value found inside none is same =
    let others = no_value name (drop (suc at) fields) (ap (position (λ g. is_same g.name name)) (sym (behind fields at)) ∙ none) in
    value_at name fields at found inside (field_parts f) ∙ (λ i. (value_of fields at f inside is ∙ sym same) i ∷ others i)

-- ---- framing
