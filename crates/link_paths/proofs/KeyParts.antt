-- A tag, the digits of a digest and the text of an upload's id are one part of a path each.
use Rattle.std.proofs.Common.{ap, sym, codes, Option, Some, None, ◌≡◌, ℕ, zero, suc, ◌<◌, ◌≤◌, ◌*◌, ◌/◌, ◌%◌, ◌&&◌, ◌==◌, true, not, List, [], ◌∷◌, ◌++◌, length, nat_le, take, drop, refl, ◌∙◌, arith, length-append}
use Rattle.std.specs.Prelude.{slice_index}
use Rattle.std.specs.List.{list_all}
use Rattle.std.proofs.lemmas.Bool.{and_parts, and_from, agree_below_at, leb-true, false≢true}
use Rattle.std.proofs.lemmas.Bool.Decides.{nat_tests}
use Rattle.std.proofs.lemmas.List.{length-take, length-drop}
use Rattle.std.proofs.lemmas.List.Folds.{list_all-append}
use Rattle.hex.specs.Hex.{encode_lower, encode_with, lower_digits}
use Rattle.hex.proofs.HexLemmas.{length-encode_with}
use Rattle.reg_names.specs.Tags.{is_word, is_tag_byte, IsTag}
use Rattle.reg_names.specs.Digests.{AreBytes, IsDigest, digest_text}
use Rattle.reg_names.specs.Reading.{ReadsBack}
use Rattle.reg_names.specs.UploadIds.{IsUploadId, upload_id_text}
use Rattle.depot_api.specs.Paths.{is_part_byte}
use Rattle.link_paths.specs.Places.{digits}
use Rattle.link_paths.proofs.Parts.{is_led, Spells, one_part}

-- ---- tags

word_byte : (b : ℕ) → is_word b ≡ true → is_part_byte b ≡ true
word_byte b h = grind (arith, nat_tests)

tag_byte : (b : ℕ) → is_tag_byte b ≡ true → is_part_byte b ≡ true
tag_byte b h = grind (arith, nat_tests)

word_is_no_dot : (b : ℕ) → is_word b ≡ true → not (b == 46) ≡ true
word_is_no_dot b h = grind (arith, nat_tests)

tag_bytes : (rest : List ℕ) → list_all is_tag_byte rest ≡ true → list_all is_part_byte rest ≡ true
tag_bytes [] h = refl
tag_bytes (b ∷ rest) h = let both = and_parts (is_tag_byte b) (list_all is_tag_byte rest) h in and_from _ _ (tag_byte b both.0) (tag_bytes rest both.1)

pub tag_spelled : (tag : List ℕ) → IsTag tag → Spells 128 tag (tag ∷ [])
tag_spelled [] h = absurd (false≢true h)
tag_spelled (first ∷ rest) h =
    let both = and_parts (is_word first && nat_le (length rest) 127) (list_all is_tag_byte rest) h in
    let head = and_parts (is_word first) (nat_le (length rest) 127) both.0 in
    let long = leb-true (length rest) 127 head.1 in
    one_part 128 (first ∷ rest) (word_is_no_dot first head.0) (and_from _ _ (word_byte first head.0) (tag_bytes rest both.1)) (omega arith) (omega arith)

-- ---- bytes as digits

-- each digit is a byte of a part, and no dot
digit_byte : (k : ℕ) → k < 16 → is_part_byte (slice_index lower_digits k) ≡ true
digit_byte k below = agree_below_at (λ d. is_part_byte (slice_index lower_digits d)) (λ _. true) 16 k refl below

digit_is_no_dot : (k : ℕ) → k < 16 → not (slice_index lower_digits k == 46) ≡ true
digit_is_no_dot k below = agree_below_at (λ d. not (slice_index lower_digits d == 46)) (λ _. true) 16 k refl below

digit_bytes : (raw : List ℕ) → AreBytes raw → list_all is_part_byte (encode_lower raw) ≡ true
unfolding encode_with
digit_bytes [] h = refl
digit_bytes (b ∷ raw) h =
    let byte : b < 256 = h 0 in
    and_from _ _ (digit_byte (b / 16) (omega arith)) (and_from _ _ (digit_byte (b % 16) (omega arith)) (digit_bytes raw (λ i. h (suc i))))

digits_led : (raw : List ℕ) → 1 ≤ length raw → AreBytes raw → is_led (encode_lower raw) ≡ true
unfolding encode_with
digits_led [] long h = absurd (omega (arith, long))
digits_led (b ∷ raw) long h =
    let byte : b < 256 = h 0 in
    digit_is_no_dot (b / 16) (omega arith)

is_led-append : (xs ys : List ℕ) → is_led xs ≡ true → is_led (xs ++ ys) ≡ true
is_led-append [] ys h = cc h
is_led-append (x ∷ xs) ys h = h

AreBytes-take : (n : ℕ) (bytes : List ℕ) → AreBytes bytes → AreBytes (take n bytes)
AreBytes-take zero bytes h i = omega arith
AreBytes-take (suc n) [] h i = omega arith
AreBytes-take (suc n) (b ∷ bytes) h zero = h 0
AreBytes-take (suc n) (b ∷ bytes) h (suc i) = AreBytes-take n bytes (λ k. h (suc k)) i

AreBytes-drop : (n : ℕ) (bytes : List ℕ) → AreBytes bytes → AreBytes (drop n bytes)
AreBytes-drop zero bytes h = h
AreBytes-drop (suc n) [] h = h
AreBytes-drop (suc n) (b ∷ bytes) h = AreBytes-drop n bytes (λ k. h (suc k))

length-digits_of : (bytes : List ℕ) → length (encode_lower bytes) ≡ 2 * length bytes
length-digits_of bytes = omega (arith, length-encode_with lower_digits bytes)

-- ---- digests

pub length-digits : (digest : List ℕ) → IsDigest digest → length (digits digest) ≡ 64
length-digits digest h = rw h.is (omega (arith, length-digits_of h.raw, h.long))

pub digest_text-digits : (digest : List ℕ) → IsDigest digest → digest_text digest ≡ codes "sha256:" ++ digits digest
digest_text-digits digest h = rw h.is refl

-- the digits are known by the text
pub digits_read : (text : List ℕ) (found : Option (List ℕ)) → ReadsBack IsDigest digest_text (codes "sha256:" ++ text) found → ReadsBack IsDigest digits text found
digits_read text (Some digest) read = (read.0, ap (drop 7) (sym (digest_text-digits digest read.0) ∙ read.1))
digits_read text None read = λ digest h is. read digest h (digest_text-digits digest h ∙ ap (λ t. codes "sha256:" ++ t) is)

-- the digits of some bytes, at least one
bytes_spelled : (n : ℕ) (raw : List ℕ) → AreBytes raw → 1 ≤ length raw → 2 * length raw ≤ n → n ≤ 255 → Spells n (encode_lower raw) (encode_lower raw ∷ [])
bytes_spelled n raw h some short few =
    one_part n (encode_lower raw) (digits_led raw some h) (digit_bytes raw h) (omega (arith, length-digits_of raw, short)) few

pub digits_spelled : (digest : List ℕ) → IsDigest digest → Spells 64 (digits digest) (digits digest ∷ [])
digits_spelled digest h = rw h.is (bytes_spelled 64 h.raw h.bytes (omega (arith, h.long)) (omega (arith, h.long)) (omega arith))

-- the first two are those of the first byte
pub first_digits : (raw : List ℕ) → encode_lower (take 1 raw) ≡ take 2 (encode_lower raw)
unfolding encode_with
first_digits [] = refl
first_digits (b ∷ raw) = refl

pub first_spelled : (digest : List ℕ) → IsDigest digest → Spells 2 (take 2 (digits digest)) (take 2 (digits digest) ∷ [])
first_spelled digest h =
    rw (h.is, ← first_digits h.raw)
    (bytes_spelled 2 (take 1 h.raw) (AreBytes-take 1 h.raw h.bytes) (omega (arith, h.long, length-take 1 h.raw)) (omega (arith, h.long, length-take 1 h.raw)) (omega arith))

-- ---- ids

-- digits of some bytes of the id, a dash, and what follows it
group : (n m : ℕ) (id rest : List ℕ) → AreBytes id → list_all is_part_byte rest ≡ true → list_all is_part_byte (encode_lower (take n (drop m id)) ++ 45 ∷ rest) ≡ true
group n m id rest h more =
    let digits = encode_lower (take n (drop m id)) in
    list_all-append is_part_byte digits (45 ∷ rest) ∙ and_from _ _ (digit_bytes (take n (drop m id)) (AreBytes-take n (drop m id) (AreBytes-drop m id h))) more

id_bytes : (id : List ℕ) → AreBytes id → list_all is_part_byte (upload_id_text id) ≡ true
id_bytes id h =
    let e = encode_lower (drop 10 id) in
    let d = encode_lower (take 2 (drop 8 id)) ++ 45 ∷ e in
    let c = encode_lower (take 2 (drop 6 id)) ++ 45 ∷ d in
    let b = encode_lower (take 2 (drop 4 id)) ++ 45 ∷ c in
    group 4 0 id b h (group 2 4 id c h (group 2 6 id d h (group 2 8 id e h (digit_bytes (drop 10 id) (AreBytes-drop 10 id h)))))

length-id : (id : List ℕ) → IsUploadId id → length (upload_id_text id) ≤ 36
length-id id h =
    let c = 45 ∷ (encode_lower (take 2 (drop 8 id)) ++ 45 ∷ encode_lower (drop 10 id)) in
    let b = 45 ∷ (encode_lower (take 2 (drop 6 id)) ++ c) in
    omega (arith, h.long, length-append (encode_lower (take 4 id)) (45 ∷ (encode_lower (take 2 (drop 4 id)) ++ b)), length-append (encode_lower (take 2 (drop 4 id))) b, length-append (encode_lower (take 2 (drop 6 id))) c, length-append (encode_lower (take 2 (drop 8 id))) (45 ∷ encode_lower (drop 10 id)), length-digits_of (take 4 id), length-digits_of (take 2 (drop 4 id)), length-digits_of (take 2 (drop 6 id)), length-digits_of (take 2 (drop 8 id)), length-digits_of (drop 10 id), length-take 4 id, length-take 2 (drop 4 id), length-take 2 (drop 6 id), length-take 2 (drop 8 id), length-drop 4 id, length-drop 6 id, length-drop 8 id, length-drop 10 id)

pub id_spelled : (id : List ℕ) → IsUploadId id → Spells 36 (upload_id_text id) (upload_id_text id ∷ [])
id_spelled id h =
    let led = digits_led (take 4 id) (omega (arith, h.long, length-take 4 id)) (AreBytes-take 4 id h.bytes) in
    one_part 36 (upload_id_text id) (is_led-append (encode_lower (take 4 id)) _ led) (id_bytes id h.bytes) (length-id id h) (omega arith)
