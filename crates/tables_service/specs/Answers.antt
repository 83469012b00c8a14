-- What the service answers.
use Rattle.std.specs.Prelude.{◌≡◌, ℕ, List, Option, Result, IfOk, IfSome, IsErrOf, ⊤}
use Rattle.depot_api.specs.Blobs.{Rest}
use Rattle.depot_api.specs.Holdings.{Holding}
use Rattle.reg_entries.specs.declared.ask.Ask.{Ask}
use Rattle.reg_entries.specs.declared.reply.Reply.{Reply}
use Rattle.reg_entries.specs.declared.trouble.Trouble.{Trouble}
use Rattle.reg_entries.specs.declared.trouble.Trouble.TheVariants as troubles
use Rattle.reg_journal.specs.Changes.{replay}
use Rattle.reg_journal.specs.Past.{shown}
use Rattle.reg_journal.specs.declared.entry.Entry.{Entry}
use Rattle.reg_model.specs.Answers.{Answer, IsAnswer, plain}
use Rattle.reg_model.specs.Blobs.{GivesBlob}
use Rattle.reg_model.specs.Fits.{Fits}
use Rattle.keeper_api.specs.Rows.{Kept}
use Rattle.tables_service.specs.Telling.{AreTablesOf, HasBlobs, facts_of}

-- a reply that no blob follows is the one-thread registry's, whatever the depot holds
abbrev pub IfReplied : Kept → Ask → Result Reply Trouble → Type 0
IfReplied kept ask result =
    (journal : List Entry) (held : Holding) → AreTablesOf journal kept
    → IfOk result (λ reply. IsAnswer (facts_of journal kept.rows held) ask (plain reply))

-- it fits the ask, whatever the rows are
abbrev pub IfFitting : Ask → Result Reply Trouble → Type 0
IfFitting ask result = IfOk result (λ reply. Fits ask (plain reply))

-- this holds of a reply with its blob, whatever the blob gives
abbrev pub OfGiven : {B : Type 0} → (B → Rest) → Result (Reply × Option B) Trouble → (Answer → Type 0) → Type 0
OfGiven rest result Holds =
    IfOk result (λ given. (answer : Answer) → GivesBlob rest given answer → Holds answer)

-- a reply with its blob is the one-thread registry's
abbrev pub IfGiven : {B : Type 0} → (B → Rest) → Kept → Holding → Ask → Result (Reply × Option B) Trouble → Type 0
IfGiven rest kept held ask result =
    (journal : List Entry) → AreTablesOf journal kept → HasBlobs (shown (replay journal)) held
    → OfGiven rest result (IsAnswer (facts_of journal kept.rows held) ask)

-- a blob that was given has had no fault
abbrev pub IsFresh : {B : Type 0} → (B → ℕ) → Result (Reply × Option B) Trouble → Type 0
IsFresh faults result = IfOk result (λ given. IfSome given.1 (λ blob. faults blob ≡ 0))

-- of the troubles, these come of a call that reads rows and files
abbrev pub IsOfReads : Trouble → Type 0
IsOfReads troubles.Depot = ⊤
IsOfReads troubles.Keeper = ⊤
IsOfReads troubles.Full = ⊥
IsOfReads troubles.NoMemory = ⊤

-- the depot failed in the call
abbrev pub HasDepotFailed : {A : Type 0} → Result A Trouble → Type 0
HasDepotFailed result = IsErrOf result troubles.Depot
