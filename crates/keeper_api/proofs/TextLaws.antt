-- Where the first zero byte ends what is in front.
use Rattle.std.proofs.Common.{◌≡◌, ℕ, ◌+◌, Bool, true, false, cond, ltb, eqb, List, length, take, drop, Option, Some, None, refl, sym, ap}
use Rattle.std.specs.List.{position_or_len}
use Rattle.std.proofs.lemmas.Option.{same_Some, none-some}
use Rattle.keeper_api.specs.InnerFields.{ended_at}

-- the first zero byte ends what is in front
found : (c : Bool) (p end : ℕ) (bytes : List ℕ) → Some end ≡ cond c (Some p) None → cond {A = Option (List ℕ × List ℕ)} c (Some (take p bytes, drop (p + 1) bytes)) None ≡ Some (take end bytes, drop (end + 1) bytes)
found true p end bytes is = ap (λ (k : ℕ). Some (take k bytes, drop (k + 1) bytes)) (sym (same_Some end p is))
found false p end bytes is = absurd (none-some end (sym is))

missed : (c : Bool) (p : ℕ) (bytes : List ℕ) → None ≡ cond c (Some p) None → cond {A = Option (List ℕ × List ℕ)} c (Some (take p bytes, drop (p + 1) bytes)) None ≡ None
missed true p bytes is = absurd (none-some p is)
missed false p bytes is = refl

abbrev first_zero : List ℕ → ℕ
first_zero bytes = position_or_len (λ b. eqb b 0) bytes

pub ended_found : (bytes : List ℕ) (end : ℕ) → Some end ≡ cond (ltb (first_zero bytes) (length bytes)) (Some (first_zero bytes)) None → ended_at bytes ≡ Some (take end bytes, drop (end + 1) bytes)
unfolding ended_at
ended_found bytes end is = found (ltb (first_zero bytes) (length bytes)) (first_zero bytes) end bytes is

pub ended_missed : (bytes : List ℕ) → None ≡ cond (ltb (first_zero bytes) (length bytes)) (Some (first_zero bytes)) None → ended_at bytes ≡ None
unfolding ended_at
ended_missed bytes is = missed (ltb (first_zero bytes) (length bytes)) (first_zero bytes) bytes is
