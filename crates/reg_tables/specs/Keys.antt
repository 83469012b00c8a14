-- The keys of the tables: a table's number, and the parts of the key behind it.
use Rattle.std.specs.Prelude.{ℕ, List, [], ◌∷◌, ◌++◌}
use Rattle.reg_journal.specs.Spelling.{number_field}
use Rattle.keeper_api.specs.Fields.{ended}

-- of the number of the last entry, and of an entry
abbrev pub last_number_key : List ℕ
last_number_key = 0 ∷ 3 ∷ []

abbrev pub entry_key : ℕ → List ℕ
entry_key number = 1 ∷ number_field number

-- of a repository and a digest, in the table of a number
abbrev pub spot_key : ℕ → List ℕ → List ℕ → List ℕ
spot_key table name digest = table ∷ (ended name ++ digest)

abbrev pub manifest_key : List ℕ → List ℕ → List ℕ
manifest_key name digest = spot_key 2 name digest

abbrev pub payload_key : List ℕ → List ℕ → List ℕ
payload_key name digest = spot_key 3 name digest

abbrev pub tag_key : List ℕ → List ℕ → List ℕ
tag_key name tag = 4 ∷ (ended name ++ ended tag)

abbrev pub link_key : List ℕ → List ℕ → List ℕ
link_key name digest = spot_key 7 name digest

abbrev pub blob_key : List ℕ → List ℕ
blob_key digest = 8 ∷ digest

-- of what a manifest of a repository names, and of what it lists
abbrev pub named_key : List ℕ → List ℕ → List ℕ → List ℕ
named_key name manifest digest = spot_key 5 name manifest ++ digest

abbrev pub child_key : List ℕ → List ℕ → List ℕ → List ℕ
child_key name parent child = spot_key 6 name parent ++ child

-- of the place of a manifest, and of a blob, among those that wait for a review
abbrev pub manifest_queue_key : List ℕ → List ℕ → List ℕ
manifest_queue_key name digest = spot_key 9 name digest

abbrev pub blob_queue_key : List ℕ → List ℕ
blob_queue_key digest = 10 ∷ digest
