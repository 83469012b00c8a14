-- Calls that are counted.
use Rattle.std.proofs.Common.{◌≡◌, ℕ, ◌≤◌, Bool, true, false, arith}
use Rattle.std.proofs.lemmas.Bool.{false≢true}
use Rattle.std.proofs.lemmas.Bool.Decides.{nat_tests}
use Rattle.reg_names.specs.Cause.{Rose, HasCause}
use Rattle.depot_api.specs.Calls.{Calls, one_more, with_call}

one_more-later : (n : ℕ) → n ≤ one_more n
one_more-later n = grind (arith, nat_tests)

one_more-rose : (n : ℕ) → Rose n (one_more n)
one_more-rose n = grind (arith, nat_tests)

-- a fault that is told only of a call that failed has its cause
pub HasCause-with_call : (calls : Calls) (failed : Bool) (told : Type 0) → (told → failed ≡ true) → HasCause calls.faults (with_call calls failed).faults told
HasCause-with_call calls true told when =
    record { later = one_more-later calls.faults; rose = λ _. one_more-rose calls.faults }
HasCause-with_call calls false told when =
    record { later = omega arith; rose = λ t. absurd (false≢true (when t)) }
