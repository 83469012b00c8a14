-- The order of digests, of upload ids and of references is that of their texts.
use Rattle.std.proofs.Common.{◌≡◌, ℕ, ◌+◌, ◌<◌, ◌/◌, ◌%◌, true, List, [], ◌∷◌, ◌++◌, length, take, drop, codes, slice_index, refl, sym, ap, ◌∙◌, arith, suc, zero}
use Rattle.std.specs.List.{AllByRecursion, list_all}
use Rattle.std.specs.Ordering.{nat_cmp, ordering_then, ordering_reverse}
use Rattle.std.specs.declared.cmp.Ordering.{Ordering}
use Rattle.std.specs.declared.cmp.Ordering.TheVariants.{Less, Equal, Greater}
use Rattle.std.specs.Cmp.Lexicographic.{slice_cmp, nat_list_cmp_total}
use Rattle.std.proofs.lemmas.Bool.{and_parts}
use Rattle.std.proofs.lemmas.Bool.Decides.{nat_tests}
use Rattle.hex.specs.Hex.{encode_lower, encode_with, lower_digits}
use Rattle.uuid.specs.Text.{hex_digit, lower}
use Rattle.reg_names.specs.Digests.{AreBytes, IsDigest, digest_text}
use Rattle.reg_names.specs.UploadIds.{IsUploadId, upload_id_text}
use Rattle.reg_names.specs.Tags.{IsTag, is_tag_byte}
use Rattle.reg_names.proofs.TextBytes.{tag-bytes}
use Rattle.reg_names.proofs.UploadIdTexts.{digit}

-- ---- digits are ordered as their values, and so are the digits of bytes

hex_digit-cmp : (a b : ℕ) → a < 16 → b < 16 → nat_cmp (hex_digit lower a) (hex_digit lower b) ≡ nat_cmp a b
hex_digit-cmp a b h k = grind (arith, nat_tests)

digits-cmp : (a b : ℕ) → a < 16 → b < 16 → nat_cmp (slice_index lower_digits a) (slice_index lower_digits b) ≡ nat_cmp a b
digits-cmp a b h k = rw (← digit a h, ← digit b k) (hex_digit-cmp a b h k)

halves-cmp : (x y : ℕ) → ordering_then (nat_cmp (x / 16) (y / 16)) (nat_cmp (x % 16) (y % 16)) ≡ nat_cmp x y
halves-cmp x y = grind (arith, nat_tests)

then_assoc : (p q r : Ordering) → ordering_then p (ordering_then q r) ≡ ordering_then (ordering_then p q) r
then_assoc Less q r = refl
then_assoc Equal q r = refl
then_assoc Greater q r = refl

byte-cmp : (x y : ℕ) (rest : Ordering) → x < 256 → y < 256
    → ordering_then (nat_cmp (slice_index lower_digits (x / 16)) (slice_index lower_digits (y / 16))) (ordering_then (nat_cmp (slice_index lower_digits (x % 16)) (slice_index lower_digits (y % 16))) rest)
    ≡ ordering_then (nat_cmp x y) rest
byte-cmp x y rest h k =
    rw (digits-cmp (x / 16) (y / 16) (omega arith) (omega arith), digits-cmp (x % 16) (y % 16) (omega arith) (omega arith))
    (then_assoc _ _ rest ∙ ap (λ o. ordering_then o rest) (halves-cmp x y))

-- each element is a byte, one by one
abbrev pub Small : List ℕ → Type 0
Small xs = AllByRecursion (λ x. x < 256) xs

pub small-from : (xs : List ℕ) → AreBytes xs → Small xs
small-from [] h = tt
small-from (x ∷ xs) h = (h 0, small-from xs (λ i. h (suc i)))

pub encode-cmp : (xs ys : List ℕ) → Small xs → Small ys → slice_cmp nat_cmp (encode_lower xs) (encode_lower ys) ≡ slice_cmp nat_cmp xs ys
unfolding encode_with
encode-cmp [] [] h k = refl
encode-cmp [] (y ∷ ys) h k = refl
encode-cmp (x ∷ xs) [] h k = refl
encode-cmp (x ∷ xs) (y ∷ ys) h k = byte-cmp x y _ h.0 k.0 ∙ ap (ordering_then (nat_cmp x y)) (encode-cmp xs ys h.1 k.1)

pub digests-cmp : (digest other : List ℕ) → IsDigest digest → IsDigest other → slice_cmp nat_cmp digest other ≡ slice_cmp nat_cmp (digest_text digest) (digest_text other)
digests-cmp digest other h k = rw (h.is, k.is) (sym (encode-cmp h.raw k.raw (small-from h.raw h.bytes) (small-from k.raw k.bytes)))

-- ---- so are the digits of as many bytes, whatever comes behind them

encode_front-cmp : (xs ys more others : List ℕ) → Small xs → Small ys → length xs ≡ length ys → slice_cmp nat_cmp (encode_lower xs ++ more) (encode_lower ys ++ others) ≡ ordering_then (slice_cmp nat_cmp xs ys) (slice_cmp nat_cmp more others)
unfolding encode_with
encode_front-cmp [] [] more others h k same = refl
encode_front-cmp [] (y ∷ ys) more others h k same = absurd (omega (arith, same))
encode_front-cmp (x ∷ xs) [] more others h k same = absurd (omega (arith, same))
encode_front-cmp (x ∷ xs) (y ∷ ys) more others h k same =
    byte-cmp x y _ h.0 k.0 ∙ ap (ordering_then (nat_cmp x y)) (encode_front-cmp xs ys more others h.1 k.1 (omega (arith, same))) ∙ then_assoc (nat_cmp x y) (slice_cmp nat_cmp xs ys) (slice_cmp nat_cmp more others)

cut-cmp : (n : ℕ) (xs ys : List ℕ) → slice_cmp nat_cmp xs ys ≡ ordering_then (slice_cmp nat_cmp (take n xs) (take n ys)) (slice_cmp nat_cmp (drop n xs) (drop n ys))
cut-cmp zero xs ys = refl
cut-cmp (suc n) [] [] = refl
cut-cmp (suc n) [] (y ∷ ys) = refl
cut-cmp (suc n) (x ∷ xs) [] = refl
cut-cmp (suc n) (x ∷ xs) (y ∷ ys) =
    ap (ordering_then (nat_cmp x y)) (cut-cmp n xs ys) ∙ then_assoc (nat_cmp x y) (slice_cmp nat_cmp (take n xs) (take n ys)) (slice_cmp nat_cmp (drop n xs) (drop n ys))

small-take : (n : ℕ) (xs : List ℕ) → Small xs → Small (take n xs)
small-take zero xs h = tt
small-take (suc n) [] h = tt
small-take (suc n) (x ∷ xs) h = (h.0, small-take n xs h.1)

small-drop : (n : ℕ) (xs : List ℕ) → Small xs → Small (drop n xs)
small-drop zero xs h = h
small-drop (suc n) [] h = tt
small-drop (suc n) (x ∷ xs) h = small-drop n xs h.1

same-take : (n : ℕ) (xs ys : List ℕ) → length xs ≡ length ys → length (take n xs) ≡ length (take n ys)
same-take zero xs ys same = refl
same-take (suc n) [] [] same = refl
same-take (suc n) [] (y ∷ ys) same = absurd (omega (arith, same))
same-take (suc n) (x ∷ xs) [] same = absurd (omega (arith, same))
same-take (suc n) (x ∷ xs) (y ∷ ys) same = ap suc (same-take n xs ys (omega (arith, same)))

same-drop : (n : ℕ) (xs ys : List ℕ) → length xs ≡ length ys → length (drop n xs) ≡ length (drop n ys)
same-drop zero xs ys same = same
same-drop (suc n) [] [] same = refl
same-drop (suc n) [] (y ∷ ys) same = absurd (omega (arith, same))
same-drop (suc n) (x ∷ xs) [] same = absurd (omega (arith, same))
same-drop (suc n) (x ∷ xs) (y ∷ ys) same = same-drop n xs ys (omega (arith, same))

drop-nil : (n : ℕ) → let none : List ℕ = [] in drop n none ≡ none
drop-nil zero = refl
drop-nil (suc n) = refl

drop-more : (k n m : ℕ) (xs : List ℕ) → k + n ≡ m → drop n (drop k xs) ≡ drop m xs
drop-more zero n m xs e = ap (λ j. drop j xs) (omega (arith, e))
drop-more (suc k) n m [] e = drop-nil n ∙ sym (drop-nil m)
drop-more (suc k) n zero (x ∷ xs) e = absurd (omega (arith, e))
drop-more (suc k) n (suc m) (x ∷ xs) e = drop-more k n m xs (omega (arith, e))

-- the bytes from the place k to m, written in digits with a dash behind them, before what is ordered as those from m on
group-cmp : (k n m : ℕ) (xs ys more others : List ℕ) → k + n ≡ m → Small xs → Small ys → length xs ≡ length ys → slice_cmp nat_cmp (drop m xs) (drop m ys) ≡ slice_cmp nat_cmp more others → slice_cmp nat_cmp (drop k xs) (drop k ys) ≡ slice_cmp nat_cmp (encode_lower (take n (drop k xs)) ++ (codes "-" ++ more)) (encode_lower (take n (drop k ys)) ++ (codes "-" ++ others))
group-cmp k n m xs ys more others e h j same behind =
    let front = slice_cmp nat_cmp (take n (drop k xs)) (take n (drop k ys)) in
    let parts = encode_front-cmp (take n (drop k xs)) (take n (drop k ys)) (codes "-" ++ more) (codes "-" ++ others) (small-take n (drop k xs) (small-drop k xs h)) (small-take n (drop k ys) (small-drop k ys j)) (same-take n (drop k xs) (drop k ys) (same-drop k xs ys same)) in
    cut-cmp n (drop k xs) (drop k ys) ∙ ap (λ zs. ordering_then front (slice_cmp nat_cmp zs (drop n (drop k ys)))) (drop-more k n m xs e) ∙ ap (λ zs. ordering_then front (slice_cmp nat_cmp (drop m xs) zs)) (drop-more k n m ys e) ∙ ap (ordering_then front) behind ∙ sym parts

pub upload_ids-cmp : (id other : List ℕ) → IsUploadId id → IsUploadId other → slice_cmp nat_cmp id other ≡ slice_cmp nat_cmp (upload_id_text id) (upload_id_text other)
upload_ids-cmp id other h k =
    let s = small-from id h.bytes in
    let t = small-from other k.bytes in
    let same = h.long ∙ sym k.long in
    group-cmp 0 4 4 id other _ _ refl s t same
    (group-cmp 4 2 6 id other _ _ refl s t same
    (group-cmp 6 2 8 id other _ _ refl s t same
    (group-cmp 8 2 10 id other _ _ refl s t same
    (sym (encode-cmp (drop 10 id) (drop 10 other) (small-drop 10 id s) (small-drop 10 other t))))))

-- ---- a digest's front decides between it and a tag

tag_byte-cmp : (b : ℕ) (this that : Ordering) → is_tag_byte b ≡ true → ordering_then (nat_cmp b 58) this ≡ ordering_then (nat_cmp b 58) that
tag_byte-cmp b this that h = grind (arith, nat_tests)

front-cmp : (front text rest : List ℕ) → list_all is_tag_byte text ≡ true → slice_cmp nat_cmp text (front ++ (58 ∷ [])) ≡ slice_cmp nat_cmp text (front ++ (58 ∷ rest))
front-cmp [] [] rest h = refl
front-cmp [] (b ∷ bs) rest h = tag_byte-cmp b _ _ (and_parts (is_tag_byte b) (list_all is_tag_byte bs) h).0
front-cmp (c ∷ front) [] rest h = refl
front-cmp (c ∷ front) (b ∷ bs) rest h = ap (ordering_then (nat_cmp b c)) (front-cmp front bs rest (and_parts (is_tag_byte b) (list_all is_tag_byte bs) h).1)

pub tag-digest-cmp : (tag digest : List ℕ) → IsTag tag → IsDigest digest → slice_cmp nat_cmp tag (codes "sha256:") ≡ slice_cmp nat_cmp tag (digest_text digest)
tag-digest-cmp tag digest h k = rw k.is (front-cmp (codes "sha256") tag (encode_lower k.raw) (tag-bytes tag h))

pub digest-tag-cmp : (tag digest : List ℕ) → IsTag tag → IsDigest digest → slice_cmp nat_cmp (codes "sha256:") tag ≡ slice_cmp nat_cmp (digest_text digest) tag
digest-tag-cmp tag digest h k = nat_list_cmp_total.antisymm (codes "sha256:") tag ∙ ap ordering_reverse (tag-digest-cmp tag digest h k) ∙ sym (nat_list_cmp_total.antisymm (digest_text digest) tag)

-- the order of digests by one algorithm is that of their raw bytes
pub raws-cmp : (digest other : List ℕ) → IsDigest digest → IsDigest other → slice_cmp nat_cmp (drop 1 digest) (drop 1 other) ≡ slice_cmp nat_cmp digest other
raws-cmp digest other is is_too = rw (is.is, is_too.is) refl
