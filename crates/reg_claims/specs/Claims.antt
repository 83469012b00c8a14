-- Claims that stand. A further kind of claim is one more case in each word of the first part.
use Rattle.std.specs.Prelude.{◌≡◌, ℕ, ◌+◌, ◌<◌, ◌≤◌, ◌==◌, ◌&&◌, nat_eq, Bool, not, List, [], ◌∷◌, ◌++◌, filter, All, AllPairs, IsTrue}
use Rattle.std.specs.List.{list_any}
use Rattle.std.specs.Cmp.Lexicographic.{pointwise}
use Rattle.reg_claims.specs.declared.claim.Claim.{Claim}
use Rattle.reg_claims.specs.declared.claim.Claim.TheVariants.{Session}
use Rattle.reg_claims.specs.declared.claim.Held.{Held}
use Rattle.reg_claims.specs.declared.claim.Standing.{Standing}

-- ---- one claim

-- the claim of a session that is held
abbrev pub claim_of : Held → Claim
claim_of held = Session held.number held.name held.id

abbrev pub number_of : Claim → ℕ
number_of (Session number name id) = number

-- one claim, in each of its parts
abbrev pub is_same : Claim → Claim → Bool
is_same (Session number name id) (Session other of key) =
    number == other && pointwise nat_eq name of && pointwise nat_eq id key

-- a claim of that session
abbrev pub is_of_session : List ℕ → List ℕ → Claim → Bool
is_of_session name id (Session number of key) = pointwise nat_eq name of && pointwise nat_eq id key

-- two claims that may not stand beside each other: both are of one session
abbrev pub clash : Claim → Claim → Bool
clash claim (Session number name id) = is_of_session name id claim

-- ---- the claims that stand

-- the claims, each with who made it, in the order in which they were made, and the number of the next one
pub record ClaimList : Type 0 where
  pub standing : List Standing
  pub next : ℕ

abbrev pub no_claims : ClaimList
no_claims = record { standing = []; next = 1 }

-- the number that the next claim number never passes
abbrev pub claim_limit : ℕ
claim_limit = 9000000000000000000

-- the claim stands
abbrev pub has : Claim → ClaimList → Bool
has claim claims = list_any (λ s. is_same claim s.claim) claims.standing

-- a claim of that session stands
abbrev pub is_held : List ℕ → List ℕ → ClaimList → Bool
is_held name id claims = list_any (λ s. is_of_session name id s.claim) claims.standing

-- with a claim that takes the next number
abbrev pub with_claim : ℕ → Claim → ClaimList → ClaimList
with_claim who claim claims =
    record { standing = claims.standing ++ record { who = who; claim = claim } ∷ []; next = claims.next + 1 }

-- without a claim
abbrev pub without : Claim → ClaimList → ClaimList
without claim claims = record claims { standing = filter (λ s. not (is_same claim s.claim)) claims.standing }

-- numbers were drawn one after the other, and two claims that may not stand beside each other are one
pub record AreSound (claims : ClaimList) : Type 0 where
  pub limited : claims.next ≤ claim_limit
  pub drawn : All (λ s. number_of s.claim < claims.next) claims.standing
  pub rising : AllPairs (λ s t. number_of s.claim < number_of t.claim) claims.standing
  pub apart : (one two : Claim) → IsTrue (has one claims) → IsTrue (has two claims) → IsTrue (clash one two) → one ≡ two
