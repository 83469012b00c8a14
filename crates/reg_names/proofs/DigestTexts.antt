-- The texts of digests: each reads back to its digest, and no other text is read.
use Rattle.std.proofs.Common.{◌≡◌, ◌≢◌, ℕ, Bool, true, false, cond, List, ◌∷◌, ◌++◌, ◌+◌, ◌*◌, length, length-append, drop, Option, Some, None, Result, Ok, Err, MatchResult, is_ok, Decides, nat_eq, codes, refl, sym, ap, ◌∙◌, subst, arith}
use Rattle.std.specs.Bool.{then_some}
use Rattle.std.specs.Cmp.Lexicographic.{pointwise}
use Rattle.std.proofs.lemmas.Slice.Eq.{bytes_eq-Decides}
use Rattle.hex.specs.Hex.{encode_lower, decode_sized}
use Rattle.hex.specs.declared.error.FromHexError.{FromHexError}
use Rattle.hex.proofs.HexLemmas.{length-encode_with, decode_of-ok, decode_sized-ok, decode_sized-twice, decode_sized-encode_lower}
use Rattle.reg_names.specs.Limits.{digest_text_length}
use Rattle.reg_names.specs.Reading.{ReadsBack}
use Rattle.reg_names.specs.Digests.{AreBytes, IsDigest, digest_text, digest_spelled, digest_named}

-- what decodes into room for 32 bytes is 32 bytes
pub decoded : (digits raw : List ℕ) → decode_sized digits 32 ≡ Ok raw → (length raw ≡ 32) × AreBytes raw
decoded digits raw h =
    let long = decode_sized-ok digits 32 raw h in
    let ok = decode_of-ok digits raw (sym (decode_sized-twice digits 32 long) ∙ h) in
    (omega (arith, ok.2), ok.3)

-- what a slice's decoding shows of its digits
pub decode_sized-written : (r : Result (List ℕ) FromHexError) (answer : Result (Unit {0}) FromHexError) (out : List ℕ) → MatchResult r (λ raw. (answer ≡ Ok tt) × (out ≡ raw)) (λ e. answer ≡ Err e) → is_ok answer ≡ true → r ≡ Ok out
decode_sized-written (Ok raw) answer out h ok = ap Ok (sym h.1)
decode_sized-written (Err e) answer out h ok = cc (ok, ap is_ok h)

pub decode_sized-refused : (r : Result (List ℕ) FromHexError) (answer : Result (Unit {0}) FromHexError) (out : List ℕ) → MatchResult r (λ raw. (answer ≡ Ok tt) × (out ≡ raw)) (λ e. answer ≡ Err e) → is_ok answer ≡ false → (e : FromHexError) × (r ≡ Err e)
decode_sized-refused (Ok raw) answer out h bad = cc (bad, ap is_ok h.0)
decode_sized-refused (Err e) answer out h bad = (e, refl)

cond-then_some : (b : Bool) (d : List ℕ) → cond b (Some d) None ≡ then_some b d
cond-then_some true d = refl
cond-then_some false d = refl

-- digits that decode name a digest where they are its own
pub digest_named-decoded : (digits raw : List ℕ) → decode_sized digits 32 ≡ Ok raw → digest_named (codes "sha256:" ++ digits) ≡ then_some (pointwise nat_eq digits (encode_lower raw)) (1 ∷ raw)
unfolding digest_named
digest_named-decoded digits raw h = rw h (cond-then_some (pointwise nat_eq digits (encode_lower raw)) (1 ∷ raw))

-- digits that do not decode name none
pub digest_named-undecoded : (digits : List ℕ) (e : FromHexError) → decode_sized digits 32 ≡ Err e → digest_named (codes "sha256:" ++ digits) ≡ None
unfolding digest_named
digest_named-undecoded digits e h = rw h refl

false_from_Decides : {P : Type 0} (b : Bool) → Decides b P → ¬ P → b ≡ false
false_from_Decides true d n = absurd (n (d.0 refl))
false_from_Decides false d n = refl

unprefixed_spelled : (text : List ℕ) (r : Result (List ℕ) FromHexError) → ((rest : List ℕ) → text ≢ codes "sha256:" ++ rest) → digest_spelled text r ≡ None
unprefixed_spelled text (Ok raw) h = rw (false_from_Decides _ (bytes_eq-Decides text (digest_text (1 ∷ raw))) (h (encode_lower raw))) refl
unprefixed_spelled text (Err e) h = refl

-- nor does a text without the algorithm's name
pub digest_named-unprefixed : (text : List ℕ) → ((rest : List ℕ) → text ≢ codes "sha256:" ++ rest) → digest_named text ≡ None
unfolding digest_named
digest_named-unprefixed text h = unprefixed_spelled text (decode_sized (drop 7 text) 32) h

-- the text of a digest names it
pub digest_named-text : (digest : List ℕ) → IsDigest digest → digest_named (digest_text digest) ≡ Some digest
digest_named-text digest h =
    let decodes = decode_sized-encode_lower h.raw 32 h.long h.bytes in
    let same = (bytes_eq-Decides (encode_lower h.raw) (encode_lower h.raw)).1 refl in
    subst (λ d. digest_named (digest_text d) ≡ Some d) (sym h.is) (digest_named-decoded (encode_lower h.raw) h.raw decodes ∙ ap (λ b. then_some b (1 ∷ h.raw)) same)

spelled_is : (text raw digest : List ℕ) (b : Bool) → (length raw ≡ 32) × AreBytes raw → pointwise nat_eq text (digest_text (1 ∷ raw)) ≡ b → cond b (Some (1 ∷ raw)) None ≡ Some digest → IsDigest digest × (text ≡ digest_text digest)
spelled_is text raw digest true are e h =
    let is : digest ≡ 1 ∷ raw = cc in
    (record { raw = raw; is = is; long = are.0; bytes = are.1 }, rw is ((bytes_eq-Decides text (digest_text (1 ∷ raw))).0 e))
spelled_is text raw digest false are e h = cc h

decoded_is : (text digest : List ℕ) (r : Result (List ℕ) FromHexError) → decode_sized (drop 7 text) 32 ≡ r → digest_spelled text r ≡ Some digest → IsDigest digest × (text ≡ digest_text digest)
decoded_is text digest (Ok raw) e h = spelled_is text raw digest _ (decoded (drop 7 text) raw e) refl h
decoded_is text digest (Err _) e h = cc h

-- a digest that a text names has that text
pub digest_named-is : (text digest : List ℕ) → digest_named text ≡ Some digest → IsDigest digest × (text ≡ digest_text digest)
unfolding digest_named
digest_named-is text digest h = decoded_is text digest (decode_sized (drop 7 text) 32) refl h

exact_at : (text : List ℕ) (found : Option (List ℕ)) → digest_named text ≡ found → ReadsBack IsDigest digest_text text found
exact_at text None e = λ digest is same. cc (e, digest_named-text digest is, ap digest_named same)
exact_at text (Some digest) e = let named = digest_named-is text digest e in (named.0, sym named.1)

-- a text names a digest exactly where it is the text of one
pub digest_named-exact : (text : List ℕ) → ReadsBack IsDigest digest_text text (digest_named text)
digest_named-exact text = exact_at text (digest_named text) refl

-- the text of a digest has 71 bytes
pub length-digest_text : (digest : List ℕ) → IsDigest digest → length (digest_text digest) ≡ digest_text_length
length-digest_text digest h =
    rw h.is (length-append (codes "sha256:") (encode_lower h.raw) ∙ ap (λ n. 7 + n) (length-encode_with _ h.raw ∙ ap (λ n. 2 * n) h.long))
