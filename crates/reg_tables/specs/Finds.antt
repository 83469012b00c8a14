-- What a look-up answers.
use Rattle.std.specs.Prelude.{◌≡◌, ℕ, List, Option, Result, IfErr, IsErrOf, ⊤}
use Rattle.std.specs.Option.{option_map}
use Rattle.reg_entries.specs.declared.trouble.Trouble.{Trouble}
use Rattle.reg_entries.specs.declared.trouble.Trouble.TheVariants as trouble
use Rattle.reg_names.specs.Cause.{OnlyReads}
use Rattle.keeper_api.specs.Rows.{Rows, Kept}

-- the row at a key is spelled by what was found, and nothing was found only where there is no row
abbrev pub IsFoundAt : {A : Type 0} → List ℕ → (A → List ℕ) → Rows → Option A → Type 0
IsFoundAt key spelled rows found = option_map spelled found ≡ rows key

-- the keeper failed
abbrev pub HasKeeperFailed : {A : Type 0} → Result A Trouble → Type 0
HasKeeperFailed result = IsErrOf result trouble.Keeper

-- of the troubles, only these come of a look-up
abbrev pub IsOfLookUps : Trouble → Type 0
IsOfLookUps trouble.Depot = ⊥
IsOfLookUps trouble.Keeper = ⊤
IsOfLookUps trouble.Full = ⊥
IsOfLookUps trouble.NoMemory = ⊤

-- a look-up changes nothing, and the keeper is blamed only where its count of faults rose
pub record LooksUp {K A : Type 0} (kept : K → Kept) (faults : K → ℕ) (old new : K) (result : Result A Trouble) : Type 0 where
  pub reads : OnlyReads kept faults old new (HasKeeperFailed result)
  pub trouble : IfErr result IsOfLookUps
