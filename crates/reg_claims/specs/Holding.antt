-- What claiming makes of the claims, by cases on the answer.
use Rattle.std.specs.Prelude.{◌≡◌, ℕ, ◌+◌, Bool, true, false, nat_lt, List, Result, Ok, Err}
use Rattle.reg_claims.specs.Claims.{ClaimList, claim_of, claim_limit, is_held, with_claim}
use Rattle.reg_claims.specs.declared.claim.Held.{Held}
use Rattle.reg_claims.specs.declared.refused.NotClaimed.{NotClaimed}
use Rattle.reg_claims.specs.declared.refused.NotClaimed.TheVariants.{Taken, Full, NoMemory}

-- the next number would pass its limit
abbrev pub is_full : ClaimList → Bool
is_full claims = nat_lt claim_limit (claims.next + 1)

-- the claim of a session that takes the next number
abbrev pub next_held : List ℕ → List ℕ → ClaimList → Held
next_held name id claims = record { number = claims.next; name = name; id = id }

-- a session was claimed: it was free, and its claim stands now; one that is refused changed nothing
abbrev pub Holds : ℕ → List ℕ → List ℕ → ClaimList → Result Held NotClaimed → ClaimList → Type 0
Holds who name id before (Ok held) now =
    (is_held name id before ≡ false) × (is_full before ≡ false)
    × (held ≡ next_held name id before) × (now ≡ with_claim who (claim_of held) before)
Holds who name id before (Err Taken) now = (is_held name id before ≡ true) × (now ≡ before)
Holds who name id before (Err Full) now =
    (is_held name id before ≡ false) × (is_full before ≡ true) × (now ≡ before)
Holds who name id before (Err NoMemory) now = now ≡ before
