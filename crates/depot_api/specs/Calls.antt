-- The calls of a device in memory.
use Rattle.std.specs.Prelude.{◌≡◌, ◌↔◌, ℕ, Bool, ◌+◌, ◌^◌, ◌==◌, nat_lt, List, if◌then◌else◌, IsTrue}
use Rattle.std.specs.List.{list_any}

-- how many calls were made, the numbers of those that fail, and how many failed
pub record Calls : Type 0 where
  pub made : ℕ
  pub failing : List ℕ
  pub faults : ℕ

-- no call was made yet
abbrev pub no_calls : List ℕ → Calls
no_calls failing = record { made = 0; failing = failing; faults = 0 }

-- the number of the next call stands among those that fail
abbrev pub fails : Calls → Bool
fails calls = list_any (λ n. n == calls.made) calls.failing

-- one more, where the type has it
abbrev pub one_more : ℕ → ℕ
one_more n = if nat_lt (n + 1) (2 ^ 64) then n + 1 else n

-- one call more, which failed or did not
abbrev pub with_call : Calls → Bool → Calls
with_call calls failed =
    record calls { made = one_more calls.made; faults = if failed then one_more calls.faults else calls.faults }

-- one fault more, which is no call, or none
abbrev pub with_fault : Calls → Bool → Calls
with_fault calls failed = record calls { faults = if failed then one_more calls.faults else calls.faults }

-- a call was counted, and it failed exactly where its number stands among those that fail
pub record CountsCall (before now : Calls) (told : Type 0) : Type 0 where
  pub failed : told ↔ IsTrue (fails before)
  pub counted : now ≡ with_call before (fails before)
