-- What a sink took of a text.
use Rattle.std.specs.Prelude.{◌≡◌, ℕ, Bool, true, List, ◌++◌, Option, Result, Ok, Err}
use Rattle.std.specs.Io.KnownBytes.{Appends}
use Rattle.reg_entries.specs.declared.reply.No.{No}
use Rattle.reg_entries.specs.declared.reply.Detail.TheVariants.{Nothing}
use Rattle.reg_entries.specs.Numbers.{no_memory}
use Rattle.reg_entries.specs.declared.reply.Reply.TheVariants.{Refused}
use Rattle.reg_replies.specs.Replies.{wire}

-- the refusal for want of memory
abbrev pub memory_refusal : No
memory_refusal = record { number = no_memory; detail = Nothing }

-- the bytes of the reply for want of memory, which ends the connection
abbrev pub memory_wire : Bool → List ℕ
memory_wire head_only = wire (Refused memory_refusal) head_only true

-- a front of the text, and no more, was taken
pub record TookFront (old new : Option (List ℕ)) (text : List ℕ) : Type 0 where
  pub front : List ℕ
  pub rest : List ℕ
  pub split : text ≡ front ++ rest
  pub took : Appends old new front

-- all of the text was taken, or, where the sink failed, a front of it
abbrev pub Sends : {T E : Type 0} → Option (List ℕ) → Option (List ℕ) → List ℕ → Result T E → Type 0
Sends old new text (Ok _) = Appends old new text
Sends old new text (Err _) = TookFront old new text
