-- Uploads: where one ends, whether another request has it, and what a request meets of it (OCI Distribution
-- Specification 1.1, "Pushing blobs").
use Rattle.std.specs.Prelude.{ℕ, Bool, true, false, ◌||◌, ◌==◌, if◌then◌else◌, List, length, Option, Some, None, option_map, Result, Ok, Err}
use Rattle.std.specs.Option.{option_map_or}
use Rattle.depot_api.specs.Files.{Files}
use Rattle.depot_api.specs.Holdings.{Holding}
use Rattle.link_paths.specs.Places.{upload_data_path, upload_started_path}
use Rattle.reg_claims.specs.Claims.{ClaimList, is_held}
use Rattle.reg_entries.specs.Numbers.{upload_unknown, upload_in_use}
use Rattle.reg_entries.specs.declared.reply.Reply.{Reply}
use Rattle.reg_entries.specs.declared.reply.Reply.TheVariants as replies
use Rattle.reg_model.specs.Answers.{refusal}

-- ---- uploads by files, loans and claims

-- where an upload ends: it stands where its start is noted, and has no bytes where its data file is absent
abbrev pub upload_at : Files → List ℕ → List ℕ → Option ℕ
upload_at files name id =
    option_map (λ started. option_map_or length (files (upload_data_path name id)) 0)
    (files (upload_started_path name id))

-- another request has it: it is claimed, or its bytes are lent
abbrev pub is_busy : Holding → ClaimList → List ℕ → List ℕ → Bool
is_busy held claims name id = is_held name id claims || held.lent (upload_data_path name id)

-- ---- what a request meets of an upload

-- the id and where the upload ends, or the number of the refusal, by where it ends and whether another request has it
abbrev pub met_at : List ℕ → Option ℕ → Bool → Result (List ℕ × ℕ) ℕ
met_at id None busy = Err upload_unknown
met_at id (Some end) true = Err upload_in_use
met_at id (Some end) false = Ok (id, end)

-- the same of any id; a text that is no id names no upload
abbrev pub met_by : (List ℕ → Option ℕ) → (List ℕ → Bool) → Option (List ℕ) → Result (List ℕ × ℕ) ℕ
met_by ends busy None = Err upload_unknown
met_by ends busy (Some id) = met_at id (ends id) (busy id)

-- the reply to who asks where an upload ends
abbrev pub state_reply : List ℕ → Result (List ℕ × ℕ) ℕ → Reply
state_reply name (Ok met) = replies.Offset name met.0 met.1
state_reply name (Err number) = refusal number

-- what a request meets that adds to an upload: a start that is told has to be the upload's end
abbrev pub met_from : List ℕ → Option ℕ → Result (List ℕ × ℕ) ℕ → Result (List ℕ × ℕ) Reply
met_from name start (Err number) = Err (refusal number)
met_from name None (Ok met) = Ok met
met_from name (Some start) (Ok met) = if start == met.1 then Ok met else Err (replies.WrongStart name met.0 met.1)

-- the reply to who gives an upload up
abbrev pub cancel_reply : Result (List ℕ × ℕ) ℕ → Reply
cancel_reply (Ok met) = replies.Cancelled
cancel_reply (Err number) = refusal number
