-- What a depot holds, as far as it tells it.
use Rattle.std.specs.Prelude.{ℕ, Bool, List, Option, Result, IfOk, IfSome, IsTrue}
use Rattle.depot_api.specs.Files.{Files}

-- whether it tells its files, the files, and which paths are lent; a path that is lent has no file
pub record Holding : Type 0 where
  pub tells : Bool
  pub files : Files
  pub lent : List (List ℕ) → Bool

-- this holds of what a call found, where it found something
abbrev pub IfFound : {A E : Type 0} → Result (Option A) E → (A → Type 0) → Type 0
IfFound result Holds = IfOk result (λ found. IfSome found Holds)

-- what a call answered fits the files, where they are told
abbrev pub Finds : {A E : Type 0} → Holding → Result A E → (Files → A → Type 0) → Type 0
Finds held result Fits = IsTrue held.tells → IfOk result (Fits held.files)
