-- Which claims stand after one was made, and after one was ended.
use Rattle.std.proofs.Common.{◌≡◌, ℕ, Bool, true, false, cond, List, [], ◌∷◌, refl, sym, ap, ◌∙◌, subst, inl, inr}
use Rattle.std.specs.Prelude.{◌||◌, ◌⊎◌, not, filter, All}
use Rattle.std.specs.List.{list_any}
use Rattle.std.proofs.lemmas.Bool.{false≢true}
use Rattle.std.proofs.lemmas.List.Elements.{All-head, All-tail}
use Rattle.std.proofs.lemmas.List.Folds.{list_any-append}
use Rattle.reg_claims.specs.declared.claim.Claim.{Claim}
use Rattle.reg_claims.specs.declared.claim.Standing.{Standing}
use Rattle.reg_claims.specs.Claims.{ClaimList, is_same, has, with_claim, without}
use Rattle.reg_claims.proofs.OneClaimLaws.{one_claim, same_itself}

either : (a b : Bool) → (a || b) ≡ true → (a ≡ true) ⊎ (b ≡ true)
either true b e = inl refl
either false b e = inr e

or_right : (a b : Bool) → b ≡ true → (a || b) ≡ true
or_right true b e = refl
or_right false b e = e

or_left : (a b : Bool) → a ≡ true → (a || b) ≡ true
or_left a b e = ap (λ (x : Bool). x || b) e

or_false : (b : Bool) → (b || false) ≡ b
or_false true = refl
or_false false = refl

apart : (b : Bool) → b ≡ true → b ≡ false → ⊥
apart b t f = false≢true (sym f ∙ t)

-- ---- a claim that stands passes a test where one of the list does

pub passes : (test : Claim → Bool) (claim : Claim) (all : List Standing) → list_any (λ s. is_same claim s.claim) all ≡ true → test claim ≡ true → list_any (λ s. test s.claim) all ≡ true
passes test claim [] h e = absurd (cc h)
passes test claim (s ∷ all) h e =
    elim (either (is_same claim s.claim) (list_any (λ t. is_same claim t.claim) all) h) [
      | inl here ↦ or_left (test s.claim) (list_any (λ t. test t.claim) all) (ap test (sym (one_claim claim s.claim here)) ∙ e)
      | inr later ↦ or_right (test s.claim) (list_any (λ t. test t.claim) all) (passes test claim all later e)
    ]

pub found : (test : Claim → Bool) (all : List Standing) → list_any (λ s. test s.claim) all ≡ true → (claim : Claim) × (list_any (λ s. is_same claim s.claim) all ≡ true) × (test claim ≡ true)
found test [] h = absurd (cc h)
found test (s ∷ all) h =
    elim (either (test s.claim) (list_any (λ t. test t.claim) all) h) [
      | inl here ↦ (s.claim, or_left (is_same s.claim s.claim) (list_any (λ t. is_same s.claim t.claim) all) (same_itself s.claim), here)
      | inr later ↦ (let rest = found test all later in (rest.0, or_right (is_same rest.0 s.claim) (list_any (λ t. is_same rest.0 t.claim) all) rest.1, rest.2))
    ]

-- ---- after one was made

with_more : (claims : ClaimList) (who : ℕ) (claim other : Claim) → has other (with_claim who claim claims) ≡ (has other claims || (is_same other claim || false))
with_more claims who claim other = list_any-append (λ s. is_same other s.claim) claims.standing (record { who = who; claim = claim } ∷ [])

pub stood_or_made : (claims : ClaimList) (who : ℕ) (claim other : Claim) → has other (with_claim who claim claims) ≡ true → (has other claims ≡ true) ⊎ (other ≡ claim)
stood_or_made claims who claim other h =
    elim (either (has other claims) (is_same other claim || false) (sym (with_more claims who claim other) ∙ h)) [
      | inl stood ↦ inl stood
      | inr made ↦ inr (one_claim other claim (sym (or_false (is_same other claim)) ∙ made))
    ]

pub made_stands : (claims : ClaimList) (who : ℕ) (claim : Claim) → has claim (with_claim who claim claims) ≡ true
made_stands claims who claim =
    with_more claims who claim claim ∙ or_right (has claim claims) (is_same claim claim || false) (or_false (is_same claim claim) ∙ same_itself claim)

pub others_stand : (claims : ClaimList) (who : ℕ) (claim other : Claim) → is_same other claim ≡ false → has other (with_claim who claim claims) ≡ has other claims
others_stand claims who claim other apart =
    with_more claims who claim other ∙ ap (λ (b : Bool). has other claims || (b || false)) apart ∙ or_false (has other claims)

-- ---- after one was ended

kept_some : (p q : Standing → Bool) (s : Standing) (all : List Standing) (keeps : Bool) → (list_any p (filter q all) ≡ true → list_any p all ≡ true) → list_any p (cond keeps (s ∷ filter q all) (filter q all)) ≡ true → (p s || list_any p all) ≡ true
kept_some p q s all true rest h =
    elim (either (p s) (list_any p (filter q all)) h) [ inl here ↦ or_left (p s) (list_any p all) here | inr later ↦ or_right (p s) (list_any p all) (rest later) ]
kept_some p q s all false rest h = or_right (p s) (list_any p all) (rest h)

any_kept : (p q : Standing → Bool) (all : List Standing) → list_any p (filter q all) ≡ true → list_any p all ≡ true
any_kept p q [] h = h
any_kept p q (s ∷ all) h = kept_some p q s all (q s) (any_kept p q all) h

pub stood : (claims : ClaimList) (claim other : Claim) → has other (without claim claims) ≡ true → has other claims ≡ true
stood claims claim other h = any_kept (λ s. is_same other s.claim) (λ s. not (is_same claim s.claim)) claims.standing h

gone_step : (p : Standing → Bool) (s : Standing) (all : List Standing) (here : Bool) → p s ≡ here → list_any p (filter (λ t. not (p t)) all) ≡ false → list_any p (cond (not here) (s ∷ filter (λ t. not (p t)) all) (filter (λ t. not (p t)) all)) ≡ false
gone_step p s all true is rest = rest
gone_step p s all false is rest = ap (λ (b : Bool). b || list_any p (filter (λ t. not (p t)) all)) is ∙ rest

gone : (p : Standing → Bool) (all : List Standing) → list_any p (filter (λ s. not (p s)) all) ≡ false
gone p [] = refl
gone p (s ∷ all) = gone_step p s all (p s) refl (gone p all)

pub ended_is_gone : (claims : ClaimList) (claim : Claim) → has claim (without claim claims) ≡ false
ended_is_gone claims claim = gone (λ s. is_same claim s.claim) claims.standing

others_step : (claim other : Claim) → is_same claim other ≡ false → (s : Standing) (rest kept : List Standing) (here : Bool) → is_same claim s.claim ≡ here → list_any (λ t. is_same other t.claim) kept ≡ list_any (λ t. is_same other t.claim) rest
    → list_any (λ t. is_same other t.claim) (cond (not here) (s ∷ kept) kept) ≡ (is_same other s.claim || list_any (λ t. is_same other t.claim) rest)
others_step claim other differ s rest kept false is same = ap (λ (b : Bool). is_same other s.claim || b) same
others_step claim other differ s rest kept true is same =
    same ∙ sym (ap (λ (b : Bool). b || list_any (λ t. is_same other t.claim) rest) (no_other (is_same other s.claim) refl))
  where
    no_other : (b : Bool) → is_same other s.claim ≡ b → b ≡ false
    no_other true e =
        let one : other ≡ s.claim = one_claim other s.claim e in
        absurd (apart (is_same claim s.claim) is (subst (λ (c : Claim). is_same claim c ≡ false) one differ))
    no_other false e = refl

pub others_are_left : (claim other : Claim) → is_same claim other ≡ false → (all : List Standing)
    → list_any (λ s. is_same other s.claim) (filter (λ s. not (is_same claim s.claim)) all) ≡ list_any (λ s. is_same other s.claim) all
others_are_left claim other differ [] = refl
others_are_left claim other differ (s ∷ all) =
    others_step claim other differ s all (filter (λ t. not (is_same claim t.claim)) all) (is_same claim s.claim) refl (others_are_left claim other differ all)

-- ---- a list of which nothing is taken

all_step : (q : Standing → Bool) (s : Standing) (all : List Standing) → q s ≡ true → filter q all ≡ all → filter q (s ∷ all) ≡ s ∷ all
all_step q s all keeps rest = ap (λ (b : Bool). cond b (s ∷ filter q all) (filter q all)) keeps ∙ ap (λ (ss : List Standing). s ∷ ss) rest

pub nothing_is_taken : (q : Standing → Bool) (all : List Standing) → All (λ s. q s ≡ true) all → filter q all ≡ all
nothing_is_taken q [] each = refl
nothing_is_taken q (s ∷ all) each =
    all_step q s all (All-head (λ t. q t ≡ true) s all each) (nothing_is_taken q all (All-tail (λ t. q t ≡ true) s all each))
