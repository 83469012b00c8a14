-- The texts of upload ids: each reads back to its id, and no other text is read.
use Rattle.std.proofs.Common.{◌≡◌, ℕ, ◌+◌, ◌*◌, ◌<◌, ◌/◌, ◌%◌, ◌==◌, Bool, true, false, cond, List, [], ◌∷◌, length, slice_index, Option, Some, None, inl, inr, refl, sym, ap, ◌∙◌, subst, arith, nat_eq, All}
use Rattle.std.specs.Bool.{then_some}
use Rattle.std.specs.List.{list_all}
use Rattle.std.specs.Str.{IsUtf8}
use Rattle.std.specs.Cmp.Lexicographic.{pointwise}
use Rattle.std.proofs.lemmas.Bool.{and_parts, both_ways, cases_lt, cond_both}
use Rattle.std.proofs.lemmas.Bool.Decides.{nat_tests}
use Rattle.std.proofs.lemmas.List.{get_or_default, get_or_past}
use Rattle.std.proofs.lemmas.List.Folds.{list_all_at}
use Rattle.std.proofs.lemmas.Slice.Eq.{bytes_eq-Decides}
use Rattle.std.proofs.lemmas.Str.{IsUtf8-from_ascii}
use Rattle.hex.specs.Hex.{encode_with, lower_digits}
use Rattle.uuid.specs.Text.{by_index, byte_of_digits, digits_of, hex_digit, hyphenated_text, is_hex_digit, lower, parsed_hyphenated, parsed_simple, value_of}
use Rattle.uuid.proofs.TextLemmas.{by_index_at, by_index_length, hyphenated_ascii, table_at}
use Rattle.uuid.proofs.RoundTrips.{parses_hyphenated_text, swap_twice}
use Rattle.reg_names.specs.Reading.{ReadsBack}
use Rattle.reg_names.specs.UploadIds.{IsUploadId, upload_id_text, upload_id_named}

-- ---- the text that `uuid` writes is the id's

pub digit : (d : ℕ) → d < 16 → hex_digit lower d ≡ slice_index lower_digits d
digit d h = sym (table_at lower d 0 (inl refl) h)

high : (x : ℕ) → x < 256 → hex_digit lower (x / 16 % 16) ≡ slice_index lower_digits (x / 16)
high x h = ap (hex_digit lower) (omega arith) ∙ digit (x / 16) (omega arith)

low : (x : ℕ) → hex_digit lower (x % 16) ≡ slice_index lower_digits (x % 16)
low x = digit (x % 16) (omega arith)

spelled : (a b c d e f g h i j k l m n o p : ℕ)
    → a < 256 → b < 256 → c < 256 → d < 256 → e < 256 → f < 256 → g < 256 → h < 256 → i < 256 → j < 256 → k < 256 → l < 256 → m < 256 → n < 256 → o < 256 → p < 256
    → let id : List ℕ = a ∷ b ∷ c ∷ d ∷ e ∷ f ∷ g ∷ h ∷ i ∷ j ∷ k ∷ l ∷ m ∷ n ∷ o ∷ p ∷ [] in hyphenated_text lower id ≡ upload_id_text id
unfolding by_index encode_with
spelled a b c d e f g h i j k l m n o p a_ b_ c_ d_ e_ f_ g_ h_ i_ j_ k_ l_ m_ n_ o_ p_ =
    rw (high a a_, low a, high b b_, low b, high c c_, low c, high d d_, low d, high e e_, low e, high f f_, low f, high g g_, low g, high h h_, low h)
    (rw (high i i_, low i, high j j_, low j, high k k_, low k, high l l_, low l, high m m_, low m, high n n_, low n, high o o_, low o, high p p_, low p) refl)

pub hyphenated-is : (id : List ℕ) → IsUploadId id → hyphenated_text lower id ≡ upload_id_text id
hyphenated-is id is =
    let x : ℕ → ℕ = slice_index id in
    let u = is.bytes in
    let sixteen = swap_twice id is.long in
    let there = spelled (x 0) (x 1) (x 2) (x 3) (x 4) (x 5) (x 6) (x 7) (x 8) (x 9) (x 10) (x 11) (x 12) (x 13) (x 14) (x 15)
    (u 0) (u 1) (u 2) (u 3) (u 4) (u 5) (u 6) (u 7) (u 8) (u 9) (u 10) (u 11) (u 12) (u 13) (u 14) (u 15) in
    ap (hyphenated_text lower) (sym sixteen) ∙ there ∙ ap upload_id_text sixteen

pub IsUtf8-upload_id_text : (id : List ℕ) → IsUploadId id → IsUtf8 (upload_id_text id)
IsUtf8-upload_id_text id is = subst IsUtf8 (hyphenated-is id is) (IsUtf8-from_ascii _ (hyphenated_ascii lower id (inl refl)))

-- ---- what `uuid` parses is an id

abbrev AreIds : Option (List ℕ) → Type 0
AreIds found = (id : List ℕ) → found ≡ Some id → IsUploadId id

AreIds-None : AreIds None
AreIds-None id e = cc e

value_small : (c : ℕ) → is_hex_digit c ≡ true → value_of c < 16
value_small c h = grind (arith, nat_tests)

digit_passes : (hex : List ℕ) (k : ℕ) → list_all is_hex_digit hex ≡ true → k < length hex → is_hex_digit (slice_index hex k) ≡ true
digit_passes hex k all within = at (is_hex_digit (slice_index hex k)) (λ fails. both_ways _ (list_all_at is_hex_digit hex k 0 within fails) all)
  where
    at : (b : Bool) → ¬ (b ≡ false) → b ≡ true
    at true n = refl
    at false n = absurd (n refl)

bytes_are : (hex : List ℕ) → length hex ≡ 32 → list_all is_hex_digit hex ≡ true → IsUploadId (by_index 16 (byte_of_digits hex))
bytes_are hex long all = record {
  long = by_index_length 16 (byte_of_digits hex);
  bytes = λ i. elim (cases_lt i 16) [
    | inl under ↦
        let digits : (k : ℕ) → k < 32 → value_of (slice_index hex k) < 16 = λ k h. value_small (slice_index hex k) (digit_passes hex k all (omega arith)) in
        let first = digits (2 * i) (omega arith) in
        let second = digits (2 * i + 1) (omega arith) in
        rw (by_index_at 16 (byte_of_digits hex) i 0 under) (omega arith)
    | inr over ↦ rw (get_or_past (by_index 16 (byte_of_digits hex)) i 0 (rw (by_index_length 16 (byte_of_digits hex)) over)) (omega arith)
  ];
}

simple-AreIds : (hex : List ℕ) → AreIds (parsed_simple hex)
simple-AreIds hex =
    cond_both _ _ _ AreIds
    (λ e id is.
    let parts = and_parts (length hex == 32) (list_all is_hex_digit hex) e in
    let same : by_index 16 (byte_of_digits hex) ≡ id = cc is in
    subst IsUploadId same (bytes_are hex (grind (arith, nat_tests)) parts.1))
    (λ _. AreIds-None)

parsed-AreIds : (text : List ℕ) → AreIds (parsed_hyphenated text)
parsed-AreIds text = cond_both _ _ _ AreIds (λ _. simple-AreIds (digits_of text)) (λ _. AreIds-None)

-- ---- the id that a text names

pub None-from : (found : Option (List ℕ)) → ¬ ((id : List ℕ) × (found ≡ Some id)) → found ≡ None
None-from None n = refl
None-from (Some id) n = absurd (n (id, refl))

cond-then_some : (b : Bool) (id : List ℕ) → cond b (Some id) None ≡ then_some b id
cond-then_some true id = refl
cond-then_some false id = refl

pub named-parsed : (text id : List ℕ) → parsed_hyphenated text ≡ Some id → upload_id_named text ≡ then_some (pointwise nat_eq text (upload_id_text id)) id
unfolding upload_id_named
named-parsed text id h = rw h (cond-then_some (pointwise nat_eq text (upload_id_text id)) id)

pub named-unparsed : (text : List ℕ) → parsed_hyphenated text ≡ None → upload_id_named text ≡ None
unfolding upload_id_named
named-unparsed text h = rw h refl

-- the text of an id names it
pub named-text : (id : List ℕ) → IsUploadId id → upload_id_named (upload_id_text id) ≡ Some id
named-text id is =
    let small : All (λ b. b < 256) id = λ i d h. rw (get_or_default id i d 0 h) (is.bytes i) in
    let parses = ap parsed_hyphenated (sym (hyphenated-is id is)) ∙ sym (parses_hyphenated_text lower id (inl refl) is.long small) in
    let same = (bytes_eq-Decides (upload_id_text id) (upload_id_text id)).1 refl in
    named-parsed (upload_id_text id) id parses ∙ ap (λ b. then_some b id) same

spelled-is : (text id other : List ℕ) (b : Bool) → IsUploadId id → pointwise nat_eq text (upload_id_text id) ≡ b → then_some b id ≡ Some other → IsUploadId other × (text ≡ upload_id_text other)
spelled-is text id other true is e h = let same : id ≡ other = cc h in (subst IsUploadId same is, rw (← same) ((bytes_eq-Decides text (upload_id_text id)).0 e))
spelled-is text id other false is e h = cc h

named-is : (text id : List ℕ) (found : Option (List ℕ)) → parsed_hyphenated text ≡ found → upload_id_named text ≡ Some id → IsUploadId id × (text ≡ upload_id_text id)
named-is text id None e h = cc (h, named-unparsed text e)
named-is text id (Some other) e h = spelled-is text other id _ (parsed-AreIds text other e) refl (sym (named-parsed text other e) ∙ h)

exact_at : (text : List ℕ) (found : Option (List ℕ)) → upload_id_named text ≡ found → ReadsBack IsUploadId upload_id_text text found
exact_at text None e = λ id is same. cc (e, named-text id is, ap upload_id_named same)
exact_at text (Some id) e = let named = named-is text id _ refl e in (named.0, sym named.1)

-- a text names an id exactly where it is the text of one
pub named-exact : (text : List ℕ) → ReadsBack IsUploadId upload_id_text text (upload_id_named text)
named-exact text = exact_at text (upload_id_named text) refl

-- bytes that are no UTF-8 name none
pub named-refused : (text : List ℕ) → ¬ IsUtf8 text → upload_id_named text ≡ None
named-refused text bad = at (upload_id_named text) refl
  where
    at : (found : Option (List ℕ)) → upload_id_named text ≡ found → upload_id_named text ≡ None
    at None e = e
    at (Some id) e = let is = named-is text id _ refl e in absurd (bad (rw is.1 (IsUtf8-upload_id_text id is.0)))
