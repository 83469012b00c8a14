-- Paths and their texts.
use Rattle.std.proofs.Common.{◌≡◌, ℕ, zero, suc, ◌+◌, ◌<◌, ◌≤◌, Bool, true, false, eqb, List, [], ◌∷◌, ◌++◌, length, get_or, drop, refl, ap, sym, subst, ◌∙◌, arith, append_assoc}
use Rattle.std.specs.Prelude.{IsTrue, MatchBool, ◌&&◌, ◌||◌, ◌==◌, nat_le}
use Rattle.std.specs.Str.{IsUtf8, is_utf8}
use Rattle.std.specs.List.{All, list_all}
use Rattle.std.proofs.lemmas.Bool.{and_parts, and_from, or_parts, not-true, leb-true, le-leb, false≢true}
use Rattle.std.proofs.lemmas.Str.{is_utf8-from_IsUtf8, IsUtf8-from_is_utf8}
use Rattle.std.proofs.lemmas.List.{at_drop_more}
use Rattle.std.proofs.lemmas.List.Splits.{join_with_byte-slice_split, length-slice_split, slice_split_none, slice_split_at}
use Rattle.std.proofs.lemmas.List.Elements.{All-nil, All-cons}
use Rattle.depot_api.specs.Paths.{is_part_byte, is_part, IsPart, parts_of, path_text, is_path, IsPath, is_path_text}

-- a path's tests, each by itself
record PathTests (p : List (List ℕ)) : Type 0 where
  some : nat_le 1 (length p) ≡ true
  parts : list_all is_part p ≡ true
  short : nat_le (length (path_text p)) 4096 ≡ true

path_tests : (p : List (List ℕ)) → IsPath p → PathTests p
path_tests p h =
    let outer = and_parts (nat_le 1 (length p) && list_all is_part p) (nat_le (length (path_text p)) 4096) h in
    let inner = and_parts (nat_le 1 (length p)) (list_all is_part p) outer.0 in
    record { some = inner.0; parts = inner.1; short = outer.1 }

-- a text cut at its slashes and joined again
text_of_parts : (text : List ℕ) → path_text (parts_of text) ≡ text
text_of_parts text = join_with_byte-slice_split 47 text

-- a text that is too long is no path
pub not_path_from_long : (text : List ℕ) → 4096 < length text → IsPath (parts_of text) → ⊥
not_path_from_long text long path =
    let short = leb-true (length (path_text (parts_of text))) 4096 (path_tests (parts_of text) path).short in
    omega (arith, long, subst (λ (t : List ℕ). length t ≤ 4096) (text_of_parts text) short)

-- a text of which some part is none is no path
pub not_path_from_part : (text : List ℕ) (k : ℕ) (part : List ℕ) → (k < length (parts_of text)) × (part ≡ get_or (parts_of text) k part) → (IsPart part → ⊥) → IsPath (parts_of text) → ⊥
not_path_from_part text k part at other path = other (part_at (parts_of text) k (path_tests (parts_of text) path).parts at)
  where
    part_at : (p : List (List ℕ)) (k : ℕ) → list_all is_part p ≡ true → (k < length p) × (part ≡ get_or p k part) → IsPart part
    part_at [] k h at = absurd (omega (arith, at.0))
    part_at (x ∷ xs) zero h at = subst IsPart (sym at.1) (and_parts (is_part x) (list_all is_part xs) h).0
    part_at (x ∷ xs) (suc k) h at =
        part_at xs k (and_parts (is_part x) (list_all is_part xs) h).1 (omega (arith, at.0), at.1)

-- a text that is short, and all of whose parts are parts, is a path
pub IsPath-from_parts : (text : List ℕ) (parts : List (List ℕ)) → parts ≡ parts_of text → length text ≤ 4096 → IsTrue (list_all is_part parts) → IsPath parts
IsPath-from_parts text parts e short all =
    let some : 1 ≤ length parts = omega (arith, ap length e, length-slice_split (λ b. eqb b 47) text) in
    let long : length (path_text parts) ≤ 4096 = omega (arith, short, ap length (ap path_text e ∙ text_of_parts text)) in
    and_from _ _ (and_from _ _ (le-leb 1 (length parts) some) all) (le-leb (length (path_text parts)) 4096 long)

-- no byte of a part is a slash
no_slash : (part : List ℕ) → list_all is_part_byte part ≡ true → All (λ b. eqb b 47 ≡ false) part
no_slash [] h = All-nil (λ b. eqb b 47 ≡ false)
no_slash (b ∷ bs) h =
    let both = and_parts (is_part_byte b) (list_all is_part_byte bs) h in
    All-cons (λ b. eqb b 47 ≡ false) b bs (or_parts (b == 47) (b == 0) (not-true (b == 47 || b == 0) both.0)).0 (no_slash bs both.1)

bytes_of_part : (part : List ℕ) → IsPart part → list_all is_part_byte part ≡ true
bytes_of_part part h = (and_parts _ _ (and_parts _ _ h).0).1

-- the parts of the text of parts are the parts
cut_text : (p : List (List ℕ)) → list_all is_part p ≡ true → nat_le 1 (length p) ≡ true → parts_of (path_text p) ≡ p
cut_text [] h some = absurd (false≢true some)
cut_text (x ∷ []) h some =
    slice_split_none (λ b. eqb b 47) x (no_slash x (bytes_of_part x (and_parts (is_part x) true h).0))
cut_text (x ∷ y ∷ zs) h some =
    let both = and_parts (is_part x) (list_all is_part (y ∷ zs)) h in
    slice_split_at (λ b. eqb b 47) x 47 (path_text (y ∷ zs)) (no_slash x (bytes_of_part x both.0)) refl
    ∙ ap (λ rest. x ∷ rest) (cut_text (y ∷ zs) both.1 (le-leb 1 (length (y ∷ zs)) (omega arith)))

pub parts_of-path_text : (p : List (List ℕ)) → IsPath p → parts_of (path_text p) ≡ p
parts_of-path_text p path = let tests = path_tests p path in cut_text p tests.parts tests.some

-- two parts that are joined already
pub path_text-joined : (x y : List ℕ) (zs : List (List ℕ)) → path_text ((x ++ (47 ∷ y)) ∷ zs) ≡ path_text (x ∷ y ∷ zs)
path_text-joined x y [] = refl
path_text-joined x y (z ∷ zs) = append_assoc x (47 ∷ y) (47 ∷ path_text (z ∷ zs))

-- the next part of those that are left, pushed behind a slash
pub path_text-pushed : (rest : List (List ℕ)) (i : ℕ) (text part : List ℕ) → i < length rest → part ≡ get_or rest i part → path_text (((text ++ (47 ∷ [])) ++ part) ∷ drop (i + 1) rest) ≡ path_text (text ∷ drop i rest)
path_text-pushed rest i text part within is =
    ap (λ (t : List ℕ). path_text (t ∷ drop (i + 1) rest)) (append_assoc text (47 ∷ []) part)
    ∙ path_text-joined text part (drop (i + 1) rest)
    ∙ ap (λ (p : List ℕ). path_text (text ∷ p ∷ drop (i + 1) rest)) is
    ∙ sym (at_drop_more (λ (left : List (List ℕ)). path_text (text ∷ left)) rest i part within)

not_from : (b : Bool) → (b ≡ true → ⊥) → b ≡ false
not_from true h = absurd (h refl)
not_from false h = refl

-- bytes that are a text are a path's where that text is, and other bytes are none
pub text_is_path : (bytes text : List ℕ) (r : Bool) → text ≡ bytes → IsUtf8 bytes → MatchBool r (IsPath (parts_of text)) (IsPath (parts_of text) → ⊥) → r ≡ is_path_text bytes
text_is_path bytes text true same utf8 is =
    sym (and_from (is_utf8 bytes) (is_path (parts_of bytes)) (is_utf8-from_IsUtf8 bytes utf8) (ap (λ t. is_path (parts_of t)) (sym same) ∙ is))
text_is_path bytes text false same utf8 no_path =
    sym (not_from (is_path_text bytes) (λ h. no_path (ap (λ t. is_path (parts_of t)) same ∙ (and_parts (is_utf8 bytes) (is_path (parts_of bytes)) h).1)))

pub bytes_are_none : (bytes : List ℕ) → (IsUtf8 bytes → ⊥) → false ≡ is_path_text bytes
bytes_are_none bytes none =
    sym (not_from (is_path_text bytes) (λ h. none (IsUtf8-from_is_utf8 bytes (and_parts (is_utf8 bytes) (is_path (parts_of bytes)) h).0)))
