-- The proof's own: no public clause cites what stands here.
-- Items by their keys.
use Rattle.std.specs.Prelude.{ℕ, Bool, true, false, List, [], ◌∷◌, ◌++◌}
use Rattle.keeper_api.specs.Fields.{ended}
use Rattle.reg_tables.specs.Items.{Item, last_number, entry_at, manifest_at, tag_at, named_at, child_at, link_at, blob_at, none_at, elsewhere}

-- the key of an item
abbrev pub key_of : Item → List ℕ
key_of last_number = 0 ∷ 3 ∷ []
key_of (entry_at number) = 1 ∷ number
key_of (manifest_at name digest) = 2 ∷ (ended name ++ digest)
key_of (tag_at name tag) = 4 ∷ (ended name ++ ended tag)
key_of (named_at name manifest digest) = 5 ∷ ((ended name ++ manifest) ++ digest)
key_of (child_at name parent child) = 6 ∷ ((ended name ++ parent) ++ child)
key_of (link_at name digest) = 7 ∷ (ended name ++ digest)
key_of (blob_at digest) = 8 ∷ digest
key_of none_at = []
key_of elsewhere = []

-- it has a key
abbrev pub is_proper : Item → Bool
is_proper none_at = false
is_proper elsewhere = false
is_proper item = true
