-- What the service answers.
use Rattle.std.specs.Prelude.{◌≡◌, ℕ, Result, Ok, Err, IfOk, IfSome, IsErrOf, IsTrue, Option, ⊤}
use Rattle.depot_api.specs.Blobs.{Rest}
use Rattle.depot_api.specs.Holdings.{Holding}
use Rattle.reg_entries.specs.declared.ask.Ask.{Ask}
use Rattle.reg_entries.specs.declared.reply.Reply.{Reply}
use Rattle.reg_entries.specs.declared.trouble.Trouble.{Trouble}
use Rattle.reg_entries.specs.declared.trouble.Trouble.TheVariants as troubles
use Rattle.reg_model.specs.Answers.{Answer, IsAnswer, plain}
use Rattle.reg_model.specs.Fits.{Fits}
use Rattle.reg_model.specs.Blobs.{GivesBlob}
use Rattle.files_service.specs.Facts.{facts_of}

-- the answer is the one-thread registry's, where the depot tells what it holds, and fits the ask over every depot
pub record Answers (held : Holding) (ask : Ask) (answer : Answer) : Type 0 where
  pub is : IsTrue held.tells → IsAnswer (facts_of held) ask answer
  pub fits : Fits ask answer

-- a reply that no blob follows is such an answer
abbrev pub IfReplied : Holding → Ask → Result Reply Trouble → Type 0
IfReplied held ask result = IfOk result (λ reply. Answers held ask (plain reply))

-- and a reply with its blob is, whatever the blob gives
abbrev pub IfGiven : {B : Type 0} → (B → Rest) → Holding → Ask → Result (Reply × Option B) Trouble → Type 0
IfGiven rest held ask result =
    IfOk result (λ given. (answer : Answer) → GivesBlob rest given answer → Answers held ask answer)

-- a blob that was given has had no fault
abbrev pub IsFresh : {B : Type 0} → (B → ℕ) → Result (Reply × Option B) Trouble → Type 0
IsFresh faults result = IfOk result (λ given. IfSome given.1 (λ blob. faults blob ≡ 0))

-- the trouble is one that link files may give
abbrev pub IsOfFiles : Trouble → Type 0
IsOfFiles troubles.Depot = ⊤
IsOfFiles troubles.Keeper = ⊥
IsOfFiles troubles.Full = ⊥
IsOfFiles troubles.NoMemory = ⊤

abbrev pub HasTrouble : {A : Type 0} → Result A Trouble → Type 0
HasTrouble (Ok answer) = ⊤
HasTrouble (Err trouble) = IsOfFiles trouble

-- the depot failed in the call
abbrev pub HasFailed : {A : Type 0} → Result A Trouble → Type 0
HasFailed result = IsErrOf result troubles.Depot
