-- Claims by their parts.
use Rattle.std.proofs.Common.{◌≡◌, ℕ, ◌<◌, Bool, true, false, List, refl, ap, ◌∙◌, subst, arith}
use Rattle.std.specs.Prelude.{◌==◌, ◌&&◌, nat_eq}
use Rattle.std.specs.Cmp.{nat_eq_equiv}
use Rattle.std.specs.Cmp.Lexicographic.{pointwise, bytes_decides, nat_list_eq_equiv}
use Rattle.std.proofs.lemmas.Bool.Decides.{nat_tests}
use Rattle.reg_claims.specs.declared.claim.Claim.{Claim}
use Rattle.reg_claims.specs.declared.claim.Claim.TheVariants.{Session}
use Rattle.reg_claims.specs.Claims.{number_of, is_same, is_of_session, clash}

both : (a b : Bool) → (a && b) ≡ true → (a ≡ true) × (b ≡ true)
both true b e = (refl, e)
both false b e = absurd (cc e)

and_true : (a b : Bool) → a ≡ true → b ≡ true → (a && b) ≡ true
and_true a b p q = ap (λ (x : Bool). x && b) p ∙ q

text : (xs ys : List ℕ) → pointwise nat_eq xs ys ≡ true → xs ≡ ys
text xs ys e = (bytes_decides xs ys).0 e

number : (n m : ℕ) → (n == m) ≡ true → n ≡ m
number n m e = grind (arith, nat_tests)

pub one_claim : (claim other : Claim) → is_same claim other ≡ true → claim ≡ other
one_claim (Session n name id) (Session m of key) e =
    let front = both ((n == m) && pointwise nat_eq name of) (pointwise nat_eq id key) e in
    let first = both (n == m) (pointwise nat_eq name of) front.0 in
    λ i. Session (number n m first.0 i) (text name of first.1 i) (text id key front.1 i)

pub same_itself : (claim : Claim) → is_same claim claim ≡ true
same_itself (Session n name id) =
    and_true _ _ (and_true _ _ (nat_eq_equiv.refl n) (nat_list_eq_equiv.refl name)) (nat_list_eq_equiv.refl id)

-- the other claim of a session is also of it, whichever is looked at
pub clash_turned : (n : ℕ) (name id : List ℕ) (claim : Claim) → clash (Session n name id) claim ≡ true → is_of_session name id claim ≡ true
clash_turned n name id (Session m of key) e =
    let parts = both (pointwise nat_eq of name) (pointwise nat_eq key id) e in
    and_true _ _ (nat_list_eq_equiv.symm name of ∙ parts.0) (nat_list_eq_equiv.symm id key ∙ parts.1)

-- two claims of one session may not stand beside each other
pub clash_of_session : (one two : Claim) (name id : List ℕ) → is_of_session name id one ≡ true → is_of_session name id two ≡ true → clash one two ≡ true
clash_of_session one (Session m of key) name id h k =
    let parts = both (pointwise nat_eq name of) (pointwise nat_eq id key) k in
    subst (λ (i : List ℕ). is_of_session of i one ≡ true) (text id key parts.1) (subst (λ (n : List ℕ). is_of_session n id one ≡ true) (text name of parts.0) h)

pub is_its_session : (n : ℕ) (name id : List ℕ) → is_of_session name id (Session n name id) ≡ true
is_its_session n name id = and_true _ _ (nat_list_eq_equiv.refl name) (nat_list_eq_equiv.refl id)

apart_numbers : (n m : ℕ) → m < n → (n == m) ≡ false
apart_numbers n m less = grind (arith, nat_tests)

-- a claim with a lower number is another one
pub lower_differs : (n : ℕ) (name id : List ℕ) (claim : Claim) → number_of claim < n → is_same (Session n name id) claim ≡ false
lower_differs n name id (Session m of key) less =
    ap (λ (b : Bool). b && pointwise nat_eq name of && pointwise nat_eq id key) (apart_numbers n m less)
