-- What a request meets of an upload, as far as the depot tells where uploads end.
use Rattle.std.specs.Prelude.{◌≡◌, ℕ, List, length, Option, Some, None, Result, Err, IsTrue}
use Rattle.std.specs.Option.{option_map_or}
use Rattle.depot_api.specs.Files.{Files}
use Rattle.depot_api.specs.Holdings.{Holding}
use Rattle.link_paths.specs.Places.{upload_data_path}
use Rattle.reg_claims.specs.Claims.{ClaimList}
use Rattle.reg_entries.specs.Numbers.{upload_unknown}
use Rattle.reg_entries.specs.declared.reply.Reply.{Reply}
use Rattle.reg_model.specs.Uploads.{upload_at, is_busy, met_at, state_reply}

-- how many bytes of an upload are there
abbrev pub data_end : Files → List ℕ → List ℕ → ℕ
data_end files name id = option_map_or length (files (upload_data_path name id)) 0

-- what is met of an upload with an id: it ends where the files say, if they are told
pub record MeetsAt (held : Holding) (claims : ClaimList) (name id : List ℕ) (met : Result (List ℕ × ℕ) ℕ) : Type 0 where
  pub ends : Option ℕ
  pub told : IsTrue held.tells → ends ≡ upload_at held.files name id
  pub is : met ≡ met_at id ends (is_busy held claims name id)

-- and of any id; a text that is no id names no upload
abbrev pub Meets : Holding → ClaimList → List ℕ → Option (List ℕ) → Result (List ℕ × ℕ) ℕ → Type 0
Meets held claims name None met = met ≡ Err upload_unknown
Meets held claims name (Some id) met = MeetsAt held claims name id met

-- the reply to who asks where an upload ends
pub record IsStateReply (held : Holding) (claims : ClaimList) (name : List ℕ) (id : Option (List ℕ)) (reply : Reply)
    : Type 0 where
  pub met : Result (List ℕ × ℕ) ℕ
  pub meets : Meets held claims name id met
  pub is : reply ≡ state_reply name met
