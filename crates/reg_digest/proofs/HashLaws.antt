-- What SHA-256 gives is 32 bytes, and the digest that it gives is that of the bytes.
use Rattle.std.proofs.Common.{◌≡◌, ℕ, zero, suc, true, List, [], ◌∷◌, ◌++◌, sym, ap, subst, ◌∙◌, arith}
use Rattle.std.specs.Int.{to_be_bytes, w32}
use Rattle.std.specs.Prelude.{slice_index}
use Rattle.sha2.specs.Sha256.{digest_bytes, sha256}
use Rattle.std.specs.Cmp.Lexicographic.{nat_list_eq_equiv}
use Rattle.reg_names.specs.Digests.{AreBytes}
use Rattle.reg_digest.specs.Hashing.{digest_by_sha256, hashes_to}

AreBytes-append : (xs ys : List ℕ) → AreBytes xs → AreBytes ys → AreBytes (xs ++ ys)
AreBytes-append [] ys h k i = k i
AreBytes-append (x ∷ xs) ys h k zero = h 0
AreBytes-append (x ∷ xs) ys h k (suc i) = AreBytes-append xs ys (λ j. h (suc j)) k i

AreBytes-word : (n : ℕ) → AreBytes (to_be_bytes w32 n)
AreBytes-word n zero = omega arith
AreBytes-word n (suc zero) = omega arith
AreBytes-word n (suc (suc zero)) = omega arith
AreBytes-word n (suc (suc (suc zero))) = omega arith
AreBytes-word n (suc (suc (suc (suc i)))) = omega arith

AreBytes-digest_bytes : (h : List ℕ) (n : ℕ) → AreBytes (digest_bytes h n)
unfolding digest_bytes
AreBytes-digest_bytes h zero = λ i. omega arith
AreBytes-digest_bytes h (suc n) = AreBytes-append (digest_bytes h n) (to_be_bytes w32 (slice_index h n)) (AreBytes-digest_bytes h n) (AreBytes-word (slice_index h n))

pub AreBytes-sha256 : (m : List ℕ) → AreBytes (sha256 m)
unfolding sha256
AreBytes-sha256 m = AreBytes-digest_bytes _ 8

itself : (bytes : List ℕ) → hashes_to (digest_by_sha256 bytes) bytes ≡ true
itself bytes = nat_list_eq_equiv.refl (digest_by_sha256 bytes)

-- a digest that was computed is that of the bytes
pub hashes_by : (digest bytes of : List ℕ) → digest ≡ digest_by_sha256 of → of ≡ bytes → hashes_to digest bytes ≡ true
hashes_by digest bytes of is same = subst (λ (d : List ℕ). hashes_to d bytes ≡ true) (sym (is ∙ ap digest_by_sha256 same)) (itself bytes)
