-- Laws of numbers that decimal digits write.
use Rattle.std.proofs.Common.{◌≡◌, ℕ, suc, ◌+◌, ◌-◌, ◌*◌, ◌^◌, ◌<◌, ◌≤◌, Bool, true, false, ◌&&◌, ap, ◌∙◌, arith}
use Rattle.std.proofs.Math.Nat.{pow-le-pow_right}
use native.Mathlib.Nat.{pow-suc}
use Rattle.std.proofs.lemmas.Bool.Decides.{nat_tests}
use Rattle.std.specs.Char.{is_ascii_digit, digit_value}

-- what is below a power of ten of few digits has room for one more
pub has_room : (value i : ℕ) → value < 10 ^ i → i < 18 → value * 10 + 10 ≤ 10 ^ 18
has_room value i small few =
    let more : 10 ^ i ≤ 10 ^ 17 = pow-le-pow_right {n = 10} (omega arith) {i = i} {j = 17} (omega arith) in
    omega arith

pub one_digit_more : (value i digit : ℕ) → value < 10 ^ i → digit < 10 → value * 10 + digit < 10 ^ (i + 1)
one_digit_more value i digit small one =
    let e : i + 1 ≡ suc i = omega arith in
    let more : 10 ^ (i + 1) ≡ 10 ^ i * 10 = ap (λ (k : ℕ). 10 ^ k) e ∙ pow-suc 10 i in
    omega arith

pub digit_is : (b : ℕ) → is_ascii_digit b ≡ true → (digit_value b ≡ b - 48) × (b - 48 < 10) × (48 ≤ b)
digit_is b is = (grind (arith, nat_tests), grind (arith, nat_tests), grind (arith, nat_tests))

pub both : (a b : Bool) → a ≡ true → b ≡ true → (a && b) ≡ true
both true b x y = y
both false b x y = absurd (cc)
