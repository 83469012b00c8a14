-- What a request that changes a registry makes of its link files.
use Rattle.std.specs.Prelude.{◌≡◌, ◌⊎◌, ℕ, List, [], ◌∷◌, take, flat_map, None, Result, Ok, Err, IsTrue}
use Rattle.std.specs.Fmt.{decimal}
use Rattle.reg_names.specs.Digests.{digest_text}
use Rattle.depot_api.specs.Changes.{with_file, with_put}
use Rattle.depot_api.specs.Holdings.{Holding}
use Rattle.link_paths.specs.Places.{data_path, layer_path, revision_path, tag_path, tag_index_path, upload_started_path}
use Rattle.reg_entries.specs.declared.reply.Reply.{Reply}
use Rattle.reg_journal.specs.declared.entry.What.{What}
use Rattle.reg_journal.specs.declared.entry.What.TheVariants.{Put, SetTag, DropTag, DropManifest, Link, Unlink}
use Rattle.reg_model.specs.Changing.{Change, begins, keeps, enters, Outcome}
use Rattle.reg_model.specs.Facts.{Facts}
use Rattle.files_service.specs.Facts.{facts_of}
use Rattle.files_service.specs.declared.change.FileChange.{FileChange}
use Rattle.files_service.specs.declared.change.FileChange.TheVariants as file

-- ---- changes of files

-- what is held, once such a change was made
abbrev pub with_change : FileChange → Holding → Holding
with_change (file.Put at bytes) held = with_put held at bytes
with_change (file.Remove at) held = with_file held at None

-- and once such changes were made, one after the other
abbrev pub with_changes : List FileChange → Holding → Holding
with_changes [] held = held
with_changes (change ∷ changes) held = with_changes changes (with_change change held)

-- all were made, or where the call failed, some of the first
abbrev pub MakesAll : {A E : Type 0} → List FileChange → Result A E → Holding → Holding → Type 0
MakesAll changes (Ok done) before now = now ≡ with_changes changes before
MakesAll changes (Err trouble) before now = (some : ℕ) × (now ≡ with_changes (take some changes) before)

-- a link holds the text of the digest that it is to
abbrev pub puts_link : List (List ℕ) → List ℕ → FileChange
puts_link at digest = file.Put at (digest_text digest)

-- ---- the files of each change

abbrev pub files_of_entry : What → List FileChange
files_of_entry (Put name digest doc) = puts_link (revision_path name digest) digest ∷ []
files_of_entry (SetTag name tag digest) =
    puts_link (tag_index_path name tag digest) digest ∷ puts_link (tag_path name tag) digest ∷ []
files_of_entry (DropTag name tag) = file.Remove (tag_path name tag) ∷ []
files_of_entry (DropManifest name digest) = file.Remove (revision_path name digest) ∷ []
files_of_entry (Link name digest size) = puts_link (layer_path name digest) digest ∷ []
files_of_entry (Unlink name digest) = file.Remove (layer_path name digest) ∷ []
files_of_entry what = []

abbrev pub files_of : Change → List FileChange
files_of (begins name id now) = file.Put (upload_started_path name id) (decimal now) ∷ []
files_of (keeps name digest bytes) = file.Put (data_path digest) bytes ∷ []
files_of (enters what) = files_of_entry what

-- those of all that a request changes, in order
abbrev pub files_of_all : List Change → List FileChange
files_of_all changes = flat_map files_of changes

-- ---- requests

-- a request comes to an outcome: its reply is given, and all that it changes was made; or it failed, and as much of it
-- was made as some of the first changes
abbrev pub Makes : {E : Type 0} → (Outcome → Type 0) → Result Reply E → Holding → Holding → Type 0
Makes Comes (Ok reply) before now =
    (outcome : Outcome) × Comes outcome × (reply ≡ outcome.reply)
    × (now ≡ with_changes (files_of_all outcome.changes) before)
Makes Comes (Err trouble) before now =
    (now ≡ before)
    ⊎ ((outcome : Outcome) × Comes outcome
    × (some : ℕ) × (now ≡ with_changes (take some (files_of_all outcome.changes)) before))

-- the same by what the files mean, as far as the depot tells them
abbrev pub Serves : {E : Type 0} → (Type 0 → Facts → Outcome → Type 0) → Result Reply E → Holding → Holding → Type 0
Serves Comes result before now = Makes (Comes (IsTrue before.tells) (facts_of before)) result before now
