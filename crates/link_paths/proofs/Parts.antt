-- Texts of parts, with slashes between them.
use Rattle.std.proofs.Common.{◌≡◌, ℕ, suc, ◌+◌, ◌≤◌, ◌==◌, Bool, true, false, not, cond, List, [], ◌∷◌, ◌++◌, length, nat_le, refl, sym, ap, ◌∙◌, arith, length-append}
use Rattle.std.specs.List.{list_all, onto_first}
use Rattle.std.proofs.lemmas.Bool.{and_parts, and_from, le-leb, leb-true, false≢true}
use Rattle.std.proofs.lemmas.Bool.Decides.{nat_tests}
use Rattle.std.proofs.lemmas.List.Folds.{list_all-append}
use Rattle.std.proofs.lemmas.List.Splits.{join_with_byte-slice_split}
use Rattle.depot_api.specs.Paths.{parts_of, path_text, is_part_byte, is_part, IsPath}
use Rattle.depot_api.proofs.PathLaws.{IsPath-from_parts}

-- ---- the parts of a joined text

record HasFirst (parts : List (List ℕ)) : Type 0 where
  first : List ℕ
  rest : List (List ℕ)
  is : parts ≡ first ∷ rest

HasFirst-step : (b : Bool) (x : ℕ) (parts : List (List ℕ)) → HasFirst parts → HasFirst (cond b ([] ∷ parts) (onto_first x parts))
HasFirst-step true x parts h = record { first = []; rest = parts; is = refl }
HasFirst-step false x parts h = record { first = x ∷ h.first; rest = h.rest; is = ap (onto_first x) h.is }

HasFirst-parts_of : (text : List ℕ) → HasFirst (parts_of text)
HasFirst-parts_of [] = record { first = []; rest = []; is = refl }
HasFirst-parts_of (x ∷ text) = HasFirst-step (x == 47) x (parts_of text) (HasFirst-parts_of text)

append-step : (b : Bool) (x : ℕ) (parts more : List (List ℕ)) → HasFirst parts → cond b ([] ∷ (parts ++ more)) (onto_first x (parts ++ more)) ≡ cond b ([] ∷ parts) (onto_first x parts) ++ more
append-step true x parts more h = refl
append-step false x parts more h = rw h.is refl

-- a slash ends the parts before it
pub parts_of-append : (a b : List ℕ) → parts_of (a ++ 47 ∷ b) ≡ parts_of a ++ parts_of b
parts_of-append [] b = refl
parts_of-append (x ∷ a) b =
    ap (λ parts. cond (x == 47) ([] ∷ parts) (onto_first x parts)) (parts_of-append a b) ∙ append-step (x == 47) x (parts_of a) (parts_of b) (HasFirst-parts_of a)

-- a text is known by its parts
pub path_text-parts_of : (text : List ℕ) → path_text (parts_of text) ≡ text
path_text-parts_of text = join_with_byte-slice_split 47 text

pub same_text : (a b : List ℕ) → parts_of a ≡ parts_of b → a ≡ b
same_text a b h = sym (path_text-parts_of a) ∙ ap path_text h ∙ path_text-parts_of b

-- a text without a slash is one part
pub parts_of-one : (text : List ℕ) → list_all is_part_byte text ≡ true → parts_of text ≡ text ∷ []
parts_of-one [] h = refl
parts_of-one (x ∷ text) h =
    let both = and_parts (is_part_byte x) (list_all is_part_byte text) h in
    let byte : is_part_byte x ≡ true = both.0 in
    let other : (x == 47) ≡ false = grind (arith, nat_tests) in
    ap (λ parts. cond (x == 47) ([] ∷ parts) (onto_first x parts)) (parts_of-one text both.1) ∙ rw other refl

-- ---- the text of some parts of a path

-- it spells them in at most n bytes
pub record Spells (n : ℕ) (text : List ℕ) (parts : List (List ℕ)) : Type 0 where
  pub are : parts_of text ≡ parts
  pub all : list_all is_part parts ≡ true
  pub short : length text ≤ n

pub literal : (n : ℕ) (text : List ℕ) → list_all is_part (parts_of text) ≡ true → nat_le (length text) n ≡ true → Spells n text (parts_of text)
literal n text all short = record { are = refl; all = all; short = leb-true (length text) n short }

pub joined : {m n : ℕ} {a b : List ℕ} {xs ys : List (List ℕ)} → Spells m a xs → Spells n b ys → Spells (suc (m + n)) (a ++ 47 ∷ b) (xs ++ ys)
joined {m} {n} {a} {b} {xs} {ys} s t = record {
  are = parts_of-append a b ∙ ap (λ parts. parts ++ parts_of b) s.are ∙ ap (λ parts. xs ++ parts) t.are;
  all = list_all-append is_part xs ys ∙ and_from _ _ s.all t.all;
  short = omega (arith, s.short, t.short, length-append a (47 ∷ b));
}

pub IsPath-spelled : {n : ℕ} {text : List ℕ} {parts : List (List ℕ)} → Spells n text parts → n ≤ 4096 → IsPath (parts_of text)
IsPath-spelled {n} {text} {parts} s few = IsPath-from_parts text (parts_of text) refl (omega (arith, s.short, few)) (ap (list_all is_part) s.are ∙ s.all)

-- ---- one part

-- a first byte that is no dot
abbrev pub is_led : List ℕ → Bool
is_led [] = false
is_led (b ∷ bs) = not (b == 46)

no_dot : (b : ℕ) → not (b == 46) ≡ true → (b == 46) ≡ false
no_dot b h = grind (arith, nat_tests)

pub IsPart-led : (text : List ℕ) → is_led text ≡ true → list_all is_part_byte text ≡ true → length text ≤ 255 → is_part text ≡ true
IsPart-led [] led bytes short = absurd (false≢true led)
IsPart-led (b ∷ bs) led bytes short =
    and_from _ _ (and_from _ _ (and_from _ _ (le-leb 1 (length (b ∷ bs)) (omega arith)) (le-leb (length (b ∷ bs)) 255 short)) bytes) (rw (no_dot b led) refl)

pub one_part : (n : ℕ) (text : List ℕ) → is_led text ≡ true → list_all is_part_byte text ≡ true → length text ≤ n → n ≤ 255 → Spells n text (text ∷ [])
one_part n text led bytes short few = record {
  are = parts_of-one text bytes;
  all = and_from _ _ (IsPart-led text led bytes (omega (arith, short, few))) refl;
  short = short;
}
