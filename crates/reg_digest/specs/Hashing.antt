-- Which bytes a digest is of (FIPS 180-4; OCI Image Specification 1.1, "Digests").
use Rattle.std.specs.Prelude.{◌≡◌, ℕ, ◌==◌, Bool, false, nat_eq, if◌then◌else◌, List, ◌∷◌, slice_index, Option, Some, None}
use Rattle.std.specs.Option.{option_map_or}
use Rattle.std.specs.Cmp.Lexicographic.{pointwise}
use Rattle.sha2.specs.Sha256.{sha256}

-- the SHA-256 digest of bytes
abbrev pub digest_by_sha256 : List ℕ → List ℕ
digest_by_sha256 bytes = 1 ∷ sha256 bytes

-- the algorithm of a digest, by its number
abbrev pub algorithm_of : List ℕ → ℕ
algorithm_of digest = slice_index digest 0

-- the digest of bytes by the algorithm of that number: 1 is SHA-256, and there is no other
abbrev pub digest_by : ℕ → List ℕ → Option (List ℕ)
digest_by algorithm bytes = if algorithm == 1 then Some (digest_by_sha256 bytes) else None

-- this digest is that of these bytes, by the digest's own algorithm
abbrev pub HashesTo : List ℕ → List ℕ → Type 0
HashesTo digest bytes = digest_by (algorithm_of digest) bytes ≡ Some digest

-- the same as a test that computes
abbrev pub hashes_to : List ℕ → List ℕ → Bool
hashes_to digest bytes = option_map_or (λ d. pointwise nat_eq d digest) (digest_by (algorithm_of digest) bytes) false
