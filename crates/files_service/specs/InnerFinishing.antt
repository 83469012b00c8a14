-- The proof's own: no public clause cites what stands here.
use Rattle.std.specs.Prelude.{◌≡◌, ◌⊎◌, Bool, true, false, Option, is_some, Result, Ok, Err, IfSome, ⊤}
use Rattle.depot_api.specs.Changes.{with_placed, with_shelved}
use Rattle.depot_api.specs.Holdings.{Holding}
use Rattle.depot_api.specs.Stages.{Staged}
use Rattle.reg_entries.specs.declared.trouble.Trouble.{Trouble}
use Rattle.reg_entries.specs.declared.trouble.Trouble.TheVariants as troubles
use Rattle.files_service.specs.Changing.{with_change}
use Rattle.files_service.specs.declared.change.FileChange.{FileChange}
use Rattle.files_service.specs.declared.finishing.Plan.{Plan}

-- a blob was linked; it was or was not where the depot failed, and was not without memory
abbrev pub LinksBlob : {A : Type 0} → FileChange → Result A Trouble → Holding → Holding → Type 0
LinksBlob link (Ok linked) before now = now ≡ with_change link before
LinksBlob link (Err troubles.Depot) before now = (now ≡ before) ⊎ (now ≡ with_change link before)
LinksBlob link (Err troubles.NoMemory) before now = now ≡ before
LinksBlob link (Err trouble) before now = ⊥

-- what was planned was carried out in part, by whether the staged bytes came back
abbrev pub StopsAt : Plan → Staged → Bool → Trouble → Holding → Holding → Type 0
StopsAt plan staged true trouble before now = (trouble ≡ troubles.NoMemory) × (now ≡ before)
StopsAt plan staged false troubles.Depot before now =
    (now ≡ with_shelved before staged)
    ⊎ ((now ≡ with_placed before staged plan.data)
    ⊎ (now ≡ with_change plan.link (with_placed before staged plan.data)))
StopsAt plan staged false troubles.NoMemory before now = now ≡ with_placed before staged plan.data
StopsAt plan staged false trouble before now = ⊥

-- staged bytes were placed and linked as planned, or in part
abbrev pub CarriesOut : {A B : Type 0} → Plan → Staged → Result A (Option B × Trouble) → Holding → Holding → Type 0
CarriesOut plan staged (Ok linked) before now = now ≡ with_change plan.link (with_placed before staged plan.data)
CarriesOut plan staged (Err why) before now = StopsAt plan staged (is_some why.0) why.1 before now

-- the depot failed
abbrev pub HasStopped : {A B : Type 0} → Result A (Option B × Trouble) → Type 0
HasStopped (Ok linked) = ⊥
HasStopped (Err why) = why.1 ≡ troubles.Depot

-- this holds of what came back
abbrev pub IfKept : {A B : Type 0} → Result A (Option B × Trouble) → (B → Type 0) → Type 0
IfKept (Ok linked) Holds = ⊤
IfKept (Err why) Holds = IfSome why.0 Holds
