-- The words of the laws of moves.
use Rattle.std.specs.Prelude.{◌≡◌, ℕ, List, length, Some, ⊤}
use Rattle.depot_api.specs.Changes.{bytes_or}
use Rattle.depot_api.specs.Files.{Files}
use Rattle.depot_api.specs.Stages.{Staged}
use Rattle.link_paths.specs.Places.{data_path}
use Rattle.link_reading.specs.Meaning.{Means}
use Rattle.reg_entries.specs.declared.reply.Reply.{Reply}
use Rattle.reg_entries.specs.declared.reply.Reply.TheVariants as replies
use Rattle.upload_sessions.specs.declared.taking.Taken.TheVariants as taken
use Rattle.files_service.specs.Finishing as endings
use Rattle.reg_world.specs.Moves.{Seen, replied, gave, came_to}

-- the reply refuses the request
abbrev pub IsRefusal : Reply → Type 0
IsRefusal (replies.Refused told) = ⊤
IsRefusal (replies.WrongStart name id offset) = ⊤
IsRefusal (replies.NotAllowed route) = ⊤
IsRefusal reply = ⊥

-- a refusal was seen
abbrev pub Refuses : Seen → Type 0
Refuses (replied answer) = IsRefusal answer.reply
Refuses (gave (taken.Refused reply)) = ⊤
Refuses (came_to (endings.refused reply)) = ⊤
Refuses seen = ⊥

-- the digest has these bytes, unless it had some before, and the repository links it, with their size
pub record HasBlob (before now : Files) (name digest : List ℕ) (staged : Staged) : Type 0 where
  pub bytes : List ℕ
  pub those : bytes ≡ bytes_or staged.bytes before (data_path digest)
  pub file : now (data_path digest) ≡ Some bytes
  pub linked : (Means now).links name digest ≡ Some (length bytes)
