-- What one hold does for an ask, and how it is answered by what the hold has seen.
use Rattle.std.specs.Prelude.{◌≡◌, ℕ, List, Option, ⊤}
use Rattle.reg_names.specs.declared.reference.Reference.{Reference}
use Rattle.reg_entries.specs.Numbers as numbers
use Rattle.reg_entries.specs.declared.ask.Ask.{Ask}
use Rattle.reg_entries.specs.declared.ask.Ask.TheVariants as asks
use Rattle.reg_entries.specs.declared.reply.Reply.{Reply}
use Rattle.reg_entries.specs.declared.reply.Reply.TheVariants as replies
use Rattle.reg_entries.specs.declared.trouble.Trouble.{Trouble}
use Rattle.reg_entries.specs.declared.trouble.Trouble.TheVariants as troubles
use Rattle.manifest_doc.specs.Pushed.{IsJudged}
use Rattle.manifest_doc.specs.declared.pushed.Pushed.{Pushed}
use Rattle.reg_model.specs.Answers.{Answer, plain, refusal}
use Rattle.upload_sessions.specs.declared.taking.Taken.TheVariants as taken
use Rattle.reg_world.specs.Moves.{Act, answers, starts, pushes, drops, unlinks, locates, cancels, Seen, replied, failed, gave}

-- the reply for a trouble: a device failed, the journal is full, or memory was wanting
abbrev pub trouble_reply : Trouble → Reply
trouble_reply troubles.Depot = refusal numbers.storage_fault
trouble_reply troubles.Keeper = refusal numbers.storage_fault
trouble_reply troubles.Full = refusal numbers.journal_full
trouble_reply troubles.NoMemory = refusal numbers.no_memory

-- the answer by what a hold has seen, where that decides it
abbrev pub AnswersAs : Seen → Answer → Type 0
AnswersAs (replied answer) given = given ≡ answer
AnswersAs (failed trouble) given = given ≡ plain (trouble_reply trouble)
AnswersAs (gave (taken.Refused reply)) given = given ≡ plain reply
AnswersAs seen given = ⊥

-- bytes are pushed as a manifest, judged by their Content-Type, where they came with one
pub record PushesBody (name : List ℕ) (at : Option Reference) (typed : Option (List ℕ)) (body : List ℕ) (act : Act)
    : Type 0 where
  pub pushed : Pushed
  pub bytes : pushed.bytes ≡ body
  pub judged : IsJudged typed body pushed.judged
  pub is : act ≡ pushes name at pushed

-- the act of an ask that one hold answers, behind a body of these bytes
abbrev pub IsActOf : Ask → List ℕ → Act → Type 0
IsActOf asks.Base body act = ⊥
IsActOf (asks.PutManifest name at typed) body act = PushesBody name at typed body act
IsActOf (asks.DropReference name at) body act = act ≡ drops name at
IsActOf (asks.DropBlob name digest) body act = act ≡ unlinks name digest
IsActOf (asks.Start name mount) body act = (id : List ℕ) × (now : ℕ) × (act ≡ starts name mount id now)
IsActOf (asks.State name id) body act = act ≡ locates name id
IsActOf (asks.Patch name id start) body act = ⊥
IsActOf (asks.Finish name id digest start) body act = ⊥
IsActOf (asks.Cancel name id) body act = act ≡ cancels name id
IsActOf ask body act = act ≡ answers ask

-- an answer that takes no hold
abbrev pub AnswersAlways : Ask → Answer → Type 0
AnswersAlways asks.Base answer = answer ≡ plain replies.Base
AnswersAlways ask answer = ⊥
