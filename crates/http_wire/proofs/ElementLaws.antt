-- Laws of lists between commas, and of white space.
use Rattle.std.proofs.Common.{◌≡◌, ℕ, suc, ◌+◌, ◌-◌, ◌<◌, ◌≤◌, Bool, true, false, not, ◌&&◌, ◌||◌, ◌==◌, List, [], ◌∷◌, length, map, take, drop, refl, sym, ap, subst, ◌∙◌, arith, cond, Some, None}
use Rattle.std.proofs.lemmas.List.{take_rest, drop_all}
use Rattle.std.specs.List.{list_any, slice_split, position, position_or_len, onto_first}
use Rattle.httparse.specs.Grammar.{is_ows, skip_ows}
use Rattle.http_wire.specs.declared.head.Field.{Field}
use Rattle.http_wire.specs.Fields.{field_parts}
use Rattle.http_wire.specs.Framing.{is_same, values_of}
use Rattle.std.specs.Prelude.{codes}
use Rattle.std.proofs.lemmas.Bool.Decides.{nat_tests}
use Rattle.http_wire.specs.Questions.{is_name_then_ows, has_element, ends_connection}
use Rattle.http_wire.proofs.FieldLaws.{found_at, not_found}

-- ---- values of one name that pass a test

any_step : (test : List ℕ → Bool) (v : Bool) (value : List ℕ) (some : Bool) (values : List (List ℕ)) → some ≡ list_any test values
    → ((v && test value) || some) ≡ list_any test (cond v (value ∷ values) values)
any_step test true value some values same = ap (λ (b : Bool). test value || b) same
any_step test false value some values same = same

pub any_value : (test : List ℕ → Bool) (name : List ℕ) (fields : List Field)
    → list_any (λ f. is_same f.name name && test f.value) fields ≡ list_any test (values_of name (map field_parts fields))
any_value test name [] = refl
any_value test name (x ∷ fields) = any_step test (is_same x.name name) x.value _ _ (any_value test name fields)

-- ---- white space

skip_step : (v : Bool) (n x : ℕ) (bytes : List ℕ) → drop n bytes ≡ skip_ows bytes → drop (cond (not (not v)) (1 + n) 0) (x ∷ bytes) ≡ cond v (skip_ows bytes) (x ∷ bytes)
skip_step true n x bytes more = let e : 1 + n ≡ suc n = omega arith in ap (λ (k : ℕ). drop k (x ∷ bytes)) e ∙ more
skip_step false n x bytes more = refl

pub skip_from : (bytes : List ℕ) → drop (position_or_len (λ b. not (is_ows b)) bytes) bytes ≡ skip_ows bytes
skip_from [] = refl
skip_from (x ∷ bytes) = skip_step (is_ows x) _ x bytes (skip_from bytes)

pub skipped_to : (bytes : List ℕ) (at : ℕ) → position (λ b. not (is_ows b)) bytes ≡ Some at → take (length bytes - at) (drop at bytes) ≡ skip_ows bytes
skipped_to bytes at found = take_rest bytes at ∙ ap (λ (k : ℕ). drop k bytes) (sym (found_at found).0) ∙ skip_from bytes

pub skipped_all : (bytes : List ℕ) → position (λ b. not (is_ows b)) bytes ≡ None → take (length bytes - length bytes) (drop (length bytes) bytes) ≡ skip_ows bytes
skipped_all bytes none =
    let e : length bytes - length bytes ≡ 0 = omega arith in
    ap (λ (k : ℕ). take k (drop (length bytes) bytes)) e ∙ sym (drop_all _ bytes (not_found _ (length bytes) none)) ∙ skip_from bytes

-- ---- elements between commas

Cut : ℕ → List ℕ → Type 0
Cut k bytes = (k < length bytes → slice_split (λ b. b == 44) bytes ≡ take k bytes ∷ slice_split (λ b. b == 44) (drop (suc k) bytes))
    × (length bytes ≤ k → slice_split (λ b. b == 44) bytes ≡ bytes ∷ [])

cut_step : (v : Bool) (k x : ℕ) (bytes : List ℕ) → ((x == 44) ≡ v) → Cut k bytes → Cut (cond (not v) (1 + k) 0) (x ∷ bytes)
unfolding Cut
cut_step true k x bytes is more = (λ _. rw is refl, λ none. absurd (omega arith))
cut_step false k x bytes is more =
    let e : suc k ≡ 1 + k = omega arith in
    subst (λ (j : ℕ). Cut j (x ∷ bytes)) e (λ inside. rw is (ap (onto_first x) (more.0 (omega arith))), λ past. rw is (ap (onto_first x) (more.1 (omega arith))))

cut_at : (bytes : List ℕ) → Cut (position_or_len (λ b. b == 44) bytes) bytes
unfolding Cut
cut_at [] = (λ none. absurd (omega arith), λ _. refl)
cut_at (x ∷ bytes) = cut_step (x == 44) _ x bytes refl (cut_at bytes)

pub split_at_comma : (bytes : List ℕ) (at : ℕ) → position (λ b. b == 44) bytes ≡ Some at → at < length bytes
    → slice_split (λ b. b == 44) bytes ≡ take at bytes ∷ slice_split (λ b. b == 44) (drop (suc at) bytes)
unfolding Cut
split_at_comma bytes at found inside =
    subst (λ (k : ℕ). slice_split (λ b. b == 44) bytes ≡ take k bytes ∷ slice_split (λ b. b == 44) (drop (suc k) bytes)) (found_at found).0 ((cut_at bytes).0 (omega (arith, (found_at found).0)))

pub split_without_comma : (bytes : List ℕ) → position (λ b. b == 44) bytes ≡ None → slice_split (λ b. b == 44) bytes ≡ bytes ∷ []
unfolding Cut
split_without_comma bytes none = (cut_at bytes).1 (not_found _ (length bytes) none)

pub element_at : (name rest : List ℕ) (comma : ℕ) (found : Bool) → position (λ b. b == 44) rest ≡ Some comma → comma < length rest
    → found ≡ is_name_then_ows name (skip_ows (take comma rest)) → has_element name rest ≡ (found || has_element name (drop (suc comma) rest))
element_at name rest comma found at inside is =
    ap (list_any (λ element. is_name_then_ows name (skip_ows element))) (split_at_comma rest comma at inside) ∙ ap (λ (v : Bool). v || has_element name (drop (suc comma) rest)) (sym is)

pub last_element : (name rest : List ℕ) → position (λ b. b == 44) rest ≡ None → has_element name rest ≡ is_name_then_ows name (skip_ows rest)
last_element name rest none =
    ap (list_any (λ element. is_name_then_ows name (skip_ows element))) (split_without_comma rest none) ∙ or_false (is_name_then_ows name (skip_ows rest))
  where
    or_false : (v : Bool) → (v || false) ≡ v
    or_false true = refl
    or_false false = refl

pub rest_behind : (rest : List ℕ) (at : ℕ) → take (length rest - (at + 1)) (drop (at + 1) rest) ≡ drop (suc at) rest
rest_behind rest at = let e : at + 1 ≡ suc at = omega arith in take_rest rest (at + 1) ∙ ap (λ (k : ℕ). drop k rest) e

pub ends_by_field : (minor : ℕ) (fields : List Field) (r : Bool) → (minor ≡ 0 → ⊥)
    → r ≡ list_any (λ f. is_same f.name (codes "connection") && has_element (codes "close") f.value) fields → r ≡ ends_connection minor (map field_parts fields)
ends_by_field minor fields r other is =
    is ∙ any_value (has_element (codes "close")) (codes "connection") fields
    ∙ ap (λ (v : Bool). v || list_any (has_element (codes "close")) (values_of (codes "connection") (map field_parts fields))) (sym (is_no_zero minor other))
  where
    is_no_zero : (m : ℕ) → (m ≡ 0 → ⊥) → (m == 0) ≡ false
    is_no_zero m other = grind (arith, nat_tests)
