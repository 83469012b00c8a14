-- Requests that add their body to an upload: the holds that they make, and their answers.
use Rattle.std.specs.Prelude.{◌≡◌, ◌≢◌, ◌⊎◌, ℕ, ◌+◌, ◌-◌, ◌<◌, ◌≤◌, true, false, IsTrue, List, [], ◌∷◌, ◌++◌, length, take, Option, Some, None, ⊤}
use Rattle.reg_names.specs.Digests.{digest_text}
use Rattle.reg_digest.specs.Hashing.{hashes_to}
use Rattle.depot_api.specs.Stages.{Staged}
use Rattle.http_wire.specs.Filling.{Gains}
use Rattle.reg_claims.specs.declared.claim.Held.{Held}
use Rattle.reg_entries.specs.Numbers as numbers
use Rattle.reg_entries.specs.declared.ask.Ask.{Ask}
use Rattle.reg_entries.specs.declared.ask.Ask.TheVariants as asks
use Rattle.reg_entries.specs.declared.reply.Reply.{Reply}
use Rattle.reg_entries.specs.declared.reply.Reply.TheVariants as replies
use Rattle.reg_entries.specs.declared.trouble.Trouble.{Trouble}
use Rattle.reg_model.specs.Answers.{Answer, plain, refusal}
use Rattle.reg_model.specs.Changing.{refusal_with}
use Rattle.files_service.specs.Finishing.{Ending}
use Rattle.files_service.specs.Finishing as endings
use Rattle.upload_sessions.specs.declared.taking.Taken.TheVariants as taken
use Rattle.reg_world.specs.Moves.{Act, takes, shelves, finishes, releases, closes, Seen, failed, gave, came_to, ended}
use Rattle.reg_session.specs.Answering.{trouble_reply, AnswersAs}
use Rattle.reg_session.specs.Chains.{Hold}
use Rattle.reg_session.specs.Requests.{upload_limit}

-- ---- the first hold

-- what is asked for by a request that adds its body to an upload: to finish it with a digest, or not
abbrev pub upload_ask : List ℕ → Option (List ℕ) → Option ℕ → Option (List ℕ) → Ask
upload_ask name id start None = asks.Patch name id start
upload_ask name id start (Some digest) = asks.Finish name id digest start

-- the act takes the session that the ask adds to
abbrev pub IsTake : Ask → Act → Type 0
IsTake (asks.Patch name id start) act = (who : ℕ) × (act ≡ takes who name id start)
IsTake (asks.Finish name id digest start) act = (who : ℕ) × (act ≡ takes who name id start)
IsTake ask act = ⊥

-- no session was given, and the answer says why
pub record TurnsDown (ask : Ask) (h : Hold) (answer : Answer) : Type 0 where
  pub took : IsTake ask h.act
  pub so : AnswersAs h.seen answer

-- a session was given: its claim, and its bytes
pub record Gives (ask : Ask) (h : Hold) (held : Held) (before : Staged) : Type 0 where
  pub offset : ℕ
  pub took : IsTake ask h.act
  pub given : h.seen ≡ gave (taken.Out held before offset)

-- ---- its bytes

-- how many more the limit of uploads leaves to it
abbrev pub room_left : Staged → ℕ
room_left staged = upload_limit - staged.count

-- these were put behind the bytes of a session, for which there was room
pub record Stages (before after : Staged) (bytes : List ℕ) : Type 0 where
  pub path : after.path ≡ before.path
  pub tells : after.tells ≡ before.tells
  pub gains : Gains before after bytes
  pub room : length bytes ≤ room_left before

-- some of them were, from the first on
pub record StagesSome (before after : Staged) (bytes : List ℕ) : Type 0 where
  pub path : after.path ≡ before.path
  pub tells : after.tells ≡ before.tells
  pub grew : before.count ≤ after.count
  pub room : after.count ≤ before.count + room_left before
  pub some : IsTrue before.tells → (n : ℕ) × (after.bytes ≡ before.bytes ++ take n bytes)

-- ---- the last hold

-- a session is given back, with its bytes, of a stage that has had so many faults
pub record IsGivenBack (held : Held) (after : Staged) (faults : ℕ) (h : Hold) : Type 0 where
  pub is : h.act ≡ shelves held after faults
  pub seen : h.seen ≡ ended

-- the answer of a session that is closed once its bytes have become a blob
abbrev pub ClosesWith : Reply → Seen → Answer → Type 0
ClosesWith reply ended answer = answer ≡ plain reply
ClosesWith reply (failed trouble) answer = answer ≡ plain (trouble_reply trouble)
ClosesWith reply seen answer = ⊥

-- by how finishing the upload ended: the session is closed, or given back, or its claim is ended, since its bytes are
-- gone
abbrev pub SpendsBy : Held → Staged → Ending → Hold → Answer → Type 0
SpendsBy held after (endings.done reply) h answer = (h.act ≡ closes held) × ClosesWith reply h.seen answer
SpendsBy held after (endings.refused reply) h answer =
    (faults : ℕ) × IsGivenBack held after faults h × (answer ≡ plain reply)
SpendsBy held after (endings.failed true trouble) h answer =
    (faults : ℕ) × IsGivenBack held after faults h × (answer ≡ plain (trouble_reply trouble))
SpendsBy held after (endings.failed false trouble) h answer =
    (h.act ≡ releases held) × (h.seen ≡ ended) × (answer ≡ plain (trouble_reply trouble))

-- ---- answers

-- the stage failed: some of the body is there, and the storage fault is answered
pub record FailsToStage (before after : Staged) (faults : ℕ) (body : List ℕ) (answer : Answer) : Type 0 where
  pub rose : 0 < faults
  pub some : StagesSome before after body
  pub is : answer ≡ plain (refusal numbers.storage_fault)

-- the digest of what is staged is another than was asked for, and is told
pub record Differs (digest : List ℕ) (after : Staged) (reply : Reply) : Type 0 where
  pub found : List ℕ
  pub other : found ≢ digest
  pub hashes : IsTrue after.tells → IsTrue (hashes_to found after.bytes)
  pub is : reply ≡ refusal_with numbers.digest_differs (digest_text found)

-- what is answered with a session that is given back, once the body is all there
abbrev pub RepliesBack : Ask → Held → Staged → Reply → Type 0
RepliesBack (asks.Patch name id start) held after reply = reply ≡ replies.Patched held.name held.id after.count
RepliesBack (asks.Finish name id digest start) held after reply = Differs digest after reply
RepliesBack ask held after reply = ⊥

-- that, or that memory was wanting
pub record AddsAll (ask : Ask) (held : Held) (before after : Staged) (body : List ℕ) (answer : Answer) : Type 0 where
  pub reply : Reply
  pub stages : Stages before after body
  pub is : answer ≡ plain reply
  pub so : (reply ≡ refusal numbers.no_memory) ⊎ RepliesBack ask held after reply

-- a session was given, and given back with the body behind its bytes, or with some of it
pub record GivesBack (ask : Ask) (body : List ℕ) (h i : Hold) (answer : Answer) : Type 0 where
  pub held : Held
  pub before : Staged
  pub after : Staged
  pub faults : ℕ
  pub gives : Gives ask h held before
  pub back : IsGivenBack held after faults i
  pub so : FailsToStage before after faults body answer ⊎ AddsAll ask held before after body answer

-- a session was given, its bytes and the body behind them hash to the digest, and were finished with it
pub record FinishesWith (ask : Ask) (digest body : List ℕ) (h i j : Hold) (answer : Answer) : Type 0 where
  pub held : Held
  pub before : Staged
  pub after : Staged
  pub ending : Ending
  pub gives : Gives ask h held before
  pub stages : Stages before after body
  pub hashes : IsTrue after.tells → IsTrue (hashes_to digest after.bytes)
  pub finish : i.act ≡ finishes held after digest
  pub seen : i.seen ≡ came_to ending
  pub ends : SpendsBy held after ending j answer

abbrev pub Patches : List ℕ → Option (List ℕ) → Option ℕ → List ℕ → List Hold → Answer → Type 0
Patches name id start body (h ∷ []) answer = TurnsDown (asks.Patch name id start) h answer
Patches name id start body (h ∷ i ∷ []) answer = GivesBack (asks.Patch name id start) body h i answer
Patches name id start body holds answer = ⊥

abbrev pub Finishes : List ℕ → Option (List ℕ) → List ℕ → Option ℕ → List ℕ → List Hold → Answer → Type 0
Finishes name id digest start body (h ∷ []) answer = TurnsDown (asks.Finish name id digest start) h answer
Finishes name id digest start body (h ∷ i ∷ []) answer = GivesBack (asks.Finish name id digest start) body h i answer
Finishes name id digest start body (h ∷ i ∷ j ∷ []) answer =
    FinishesWith (asks.Finish name id digest start) digest body h i j answer
Finishes name id digest start body holds answer = ⊥

-- ---- requests that are not answered

-- all that was read of a body is behind the bytes of the session; a stage that failed may have something else there
abbrev pub StagesRead : Staged → Staged → ℕ → List ℕ → Type 0
StagesRead before after faults begin =
    Stages before after begin ⊎ ((0 < faults) × ((bytes : List ℕ) × StagesSome before after bytes))

-- a session was given, and given back with what was read of the body
pub record LeavesSession (ask : Ask) (begin : List ℕ) (h i : Hold) : Type 0 where
  pub held : Held
  pub before : Staged
  pub after : Staged
  pub faults : ℕ
  pub gives : Gives ask h held before
  pub back : IsGivenBack held after faults i
  pub stages : StagesRead before after faults begin

-- the holds that such a request may have made
abbrev pub LeavesBy : Ask → List ℕ → List Hold → Type 0
LeavesBy ask begin [] = ⊤
LeavesBy ask begin (h ∷ []) = (answer : Answer) × TurnsDown ask h answer
LeavesBy ask begin (h ∷ i ∷ []) = LeavesSession ask begin h i
LeavesBy ask begin holds = ⊥
