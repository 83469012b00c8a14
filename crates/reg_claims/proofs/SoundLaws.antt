-- Claims stay sound.
use Rattle.std.proofs.Common.{◌≡◌, ℕ, ◌+◌, ◌<◌, Bool, true, false, cond, List, [], ◌∷◌, ◌++◌, refl, sym, ap, ◌∙◌, subst, inl, inr, arith, lit≤}
use Rattle.std.specs.Prelude.{not, filter, IsTrue}
use Rattle.std.proofs.lemmas.Bool.{false≢true}
use Rattle.std.proofs.lemmas.Bool.Decides.{nat_tests}
use Rattle.std.proofs.lemmas.List.{append-nil}
use Rattle.std.proofs.lemmas.List.Elements.{All-nil, All-push, All-weaker, All-filter, filter-append}
use Rattle.std.proofs.lemmas.List.Kept.{AllPairs-filter}
use Rattle.std.proofs.lemmas.List.Quantifiers.{all_pairs_push}
use Rattle.reg_claims.specs.declared.claim.Claim.{Claim}
use Rattle.reg_claims.specs.declared.claim.Claim.TheVariants.{Session}
use Rattle.reg_claims.specs.declared.claim.Standing.{Standing}
use Rattle.reg_claims.specs.Claims.{ClaimList, no_claims, number_of, is_same, is_of_session, clash, has, is_held, with_claim, without, AreSound}
use Rattle.reg_claims.specs.Holding.{is_full}
use Rattle.reg_claims.proofs.OneClaimLaws.{same_itself, clash_turned, clash_of_session, is_its_session, lower_differs}
use Rattle.reg_claims.proofs.StandingLaws.{passes, found, stood_or_made, stood, ended_is_gone, nothing_is_taken}

pub none_sound : AreSound no_claims
none_sound = record {
  limited = lit≤ tt;
  drawn = All-nil (λ (s : Standing). number_of s.claim < 1);
  rising = λ i j d less within. absurd (omega arith);
  apart = λ one two h k c. absurd (cc h);
}

-- no claim that stands is of a session that is free
not_held : (claims : ClaimList) (name id : List ℕ) (claim : Claim) → is_held name id claims ≡ false → has claim claims ≡ true → is_of_session name id claim ≡ true → ⊥
not_held claims name id claim free stands of = false≢true (sym free ∙ passes (is_of_session name id) claim claims.standing stands of)

module _ (claims : ClaimList) (who : ℕ) (name id : List ℕ) (sound : AreSound claims) where
  pub with_sound : is_full claims ≡ false → is_held name id claims ≡ false → AreSound (with_claim who (Session claims.next name id) claims)
  with_sound room free = record {
    limited = grind (arith, nat_tests);
    drawn = All-push (λ (s : Standing). number_of s.claim < claims.next + 1) claims.standing (record { who = who; claim = Session claims.next name id })
        (All-weaker (λ (s : Standing). number_of s.claim < claims.next) (λ (s : Standing). number_of s.claim < claims.next + 1) (λ s less. omega arith) claims.standing sound.drawn) (omega arith);
    rising = all_pairs_push (λ (s t : Standing). number_of s.claim < number_of t.claim) claims.standing (record { who = who; claim = Session claims.next name id }) sound.rising (λ k d within. sound.drawn k d within);
    apart = λ one two h k c.
        elim (stood_or_made claims who (Session claims.next name id) one h) as (λ _. one ≡ two) [
          | inl h' ↦ elim (stood_or_made claims who (Session claims.next name id) two k) as (λ _. one ≡ two) [
            | inl k' ↦ sound.apart one two h' k' c
            | inr e ↦ absurd (not_held claims name id one free h' (subst (λ (t : Claim). clash one t ≡ true) e c))
          ]
          | inr e ↦ elim (stood_or_made claims who (Session claims.next name id) two k) as (λ _. one ≡ two) [
            | inl k' ↦ absurd (not_held claims name id two free k' (clash_turned claims.next name id two (subst (λ (t : Claim). clash t two ≡ true) e c)))
            | inr e' ↦ e ∙ sym e'
          ]
        ];
  }

  -- each claim that stands has another number
  kept : filter (λ s. not (is_same (Session claims.next name id) s.claim)) claims.standing ≡ claims.standing
  kept = nothing_is_taken (λ s. not (is_same (Session claims.next name id) s.claim)) claims.standing
      (All-weaker (λ (s : Standing). number_of s.claim < claims.next) (λ (s : Standing). not (is_same (Session claims.next name id) s.claim) ≡ true)
      (λ s less. ap not (lower_differs claims.next name id s.claim less)) claims.standing sound.drawn)

  last : (same : Bool) → same ≡ true → (s : Standing) → ◌≡◌ {A = List Standing} (cond (not same) (s ∷ []) []) []
  last true e s = refl
  last false e s = absurd (cc e)

  pub made_and_ended : without (Session claims.next name id) (with_claim who (Session claims.next name id) claims) ≡ record claims { next = claims.next + 1 }
  made_and_ended =
      let claim = Session claims.next name id in
      let standing : filter (λ s. not (is_same claim s.claim)) (claims.standing ++ record { who = who; claim = claim } ∷ []) ≡ claims.standing =
      filter-append (λ s. not (is_same claim s.claim)) claims.standing (record { who = who; claim = claim } ∷ [])
      ∙ ap (λ (ss : List Standing). filter (λ s. not (is_same claim s.claim)) claims.standing ++ ss) (last (is_same claim claim) (same_itself claim) (record { who = who; claim = claim }))
      ∙ append-nil (filter (λ s. not (is_same claim s.claim)) claims.standing) ∙ kept in
      λ i. record { standing = standing i; next = claims.next + 1 }

pub without_sound : (claims : ClaimList) (claim : Claim) → AreSound claims → AreSound (without claim claims)
without_sound claims claim sound = record {
  limited = sound.limited;
  drawn = All-filter (λ s. not (is_same claim s.claim)) (λ (s : Standing). number_of s.claim < claims.next) claims.standing sound.drawn;
  rising = AllPairs-filter (λ (s t : Standing). number_of s.claim < number_of t.claim) (λ s. not (is_same claim s.claim)) claims.standing sound.rising;
  apart = λ one two h k c. sound.apart one two (stood claims claim one h) (stood claims claim two k) c;
}

pub two_are_one : (claims : ClaimList) (one two : Claim) (name id : List ℕ) → AreSound claims → IsTrue (has one claims) → IsTrue (has two claims) → IsTrue (is_of_session name id one) → IsTrue (is_of_session name id two) → one ≡ two
two_are_one claims one two name id sound h k of of' = sound.apart one two h k (clash_of_session one two name id of of')

pub ended_is_free : (claims : ClaimList) (number : ℕ) (name id : List ℕ) → AreSound claims → IsTrue (has (Session number name id) claims) → is_held name id (without (Session number name id) claims) ≡ false
ended_is_free claims number name id sound stands = by (is_held name id (without (Session number name id) claims)) refl where
  other : is_held name id (without (Session number name id) claims) ≡ true → ⊥
  other held =
      let left = found (is_of_session name id) (without (Session number name id) claims).standing held in
      let one = two_are_one claims left.0 (Session number name id) name id sound (stood claims (Session number name id) left.0 left.1) stands left.2 (is_its_session number name id) in
      false≢true (sym (ended_is_gone claims (Session number name id)) ∙ subst (λ (c : Claim). has c (without (Session number name id) claims) ≡ true) one left.1)

  by : (b : Bool) → is_held name id (without (Session number name id) claims) ≡ b → b ≡ false
  by true e = absurd (other e)
  by false e = refl
