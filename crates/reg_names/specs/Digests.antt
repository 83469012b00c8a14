-- Digests: `sha256:` and 64 lower-case hexadecimal digits (OCI Image Specification 1.1, "Digests").
-- Contracts see a digest as its algorithm's byte, 1 for SHA-256, and then its raw bytes.
use Rattle.std.specs.Prelude.{◌≡◌, ℕ, ◌<◌, ◌++◌, nat_eq, if◌then◌else◌, List, [], ◌∷◌, length, drop, slice_index, codes, Option, Some, None, Result, Ok, Err}
use Rattle.std.specs.Cmp.Lexicographic.{pointwise}
use Rattle.hex.specs.Hex.{encode_lower, decode_sized}
use Rattle.hex.specs.declared.error.FromHexError.{FromHexError}
use Rattle.reg_names.specs.Limits.{sha256_length}

-- each element is a byte
abbrev pub AreBytes : List ℕ → Type 0
AreBytes bytes = (i : ℕ) → slice_index bytes i < 256

-- a digest by SHA-256
pub record IsSha256 (digest : List ℕ) : Type 0 where
  pub raw : List ℕ
  pub is : digest ≡ 1 ∷ raw
  pub long : length raw ≡ sha256_length
  pub bytes : AreBytes raw

abbrev pub IsDigest : List ℕ → Type 0
IsDigest digest = IsSha256 digest

-- the text of a digest
abbrev pub digest_text : List ℕ → List ℕ
digest_text [] = []
digest_text (algorithm ∷ raw) = codes "sha256:" ++ encode_lower raw

-- the digest of decoded digits, where the text is that digest's
abbrev pub digest_spelled : List ℕ → Result (List ℕ) FromHexError → Option (List ℕ)
digest_spelled text (Ok raw) = if pointwise nat_eq text (digest_text (1 ∷ raw)) then Some (1 ∷ raw) else None
digest_spelled text (Err e) = None

-- the digest whose text this is
unfoldable pub digest_named : List ℕ → Option (List ℕ)
digest_named text = digest_spelled text (decode_sized (drop 7 text) sha256_length)
