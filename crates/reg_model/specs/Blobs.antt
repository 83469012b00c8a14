-- What is answered with a blob that is read afterwards.
use Rattle.std.specs.Prelude.{◌≡◌, ◌↔◌, ℕ, List, [], length, Option, Some, None, IsSome, IsTrue, ⊤}
use Rattle.depot_api.specs.Blobs.{Rest}
use Rattle.reg_entries.specs.declared.reply.Reply.{Reply}
use Rattle.reg_entries.specs.declared.reply.Reply.TheVariants as replies
use Rattle.reg_model.specs.Answers.{Answer}

-- so many bytes are left of a blob, which are these where it tells them
pub record HasLeft (rest : Rest) (bytes : List ℕ) : Type 0 where
  pub count : length bytes ≡ rest.count
  pub told : IsTrue rest.tells → bytes ≡ rest.bytes

abbrev pub LeavesBytes : {B : Type 0} → (B → Rest) → Option B → List ℕ → Type 0
LeavesBytes rest (Some blob) content = HasLeft (rest blob) content
LeavesBytes rest None content = content ≡ []

-- the answer that a reply and a blob are, whatever bytes a blob gives that does not tell them
pub record GivesBlob {B : Type 0} (rest : B → Rest) (given : Reply × Option B) (answer : Answer) : Type 0 where
  pub reply : answer.reply ≡ given.0
  pub content : LeavesBytes rest given.1 answer.content

abbrev pub IsBlob : Reply → Type 0
IsBlob (replies.Blob digest size) = ⊤
IsBlob reply = ⊥

-- a blob comes with the reply that tells one, and with no other
abbrev pub IsPaired : {B : Type 0} → Reply × Option B → Type 0
IsPaired given = IsBlob given.0 ↔ IsSome given.1
