-- Which trouble a session may have.
use Rattle.std.specs.Prelude.{Result, Ok, Err, IsErrOf, ⊤}
use Rattle.reg_entries.specs.declared.trouble.Trouble.{Trouble}
use Rattle.reg_entries.specs.declared.trouble.Trouble.TheVariants as troubles

-- one that a depot may give
abbrev pub IsOfDepot : Trouble → Type 0
IsOfDepot troubles.Depot = ⊤
IsOfDepot troubles.Keeper = ⊥
IsOfDepot troubles.Full = ⊥
IsOfDepot troubles.NoMemory = ⊤

abbrev pub HasTrouble : {A : Type 0} → Result A Trouble → Type 0
HasTrouble (Ok answer) = ⊤
HasTrouble (Err trouble) = IsOfDepot trouble

-- the depot failed in the call
abbrev pub HasFailed : {A : Type 0} → Result A Trouble → Type 0
HasFailed result = IsErrOf result troubles.Depot
