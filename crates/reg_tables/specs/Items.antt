-- What a key is of, read off its bytes: names and tags end with a zero byte, and a digest has 33 bytes.
use Rattle.std.specs.Prelude.{ℕ, zero, suc, ◌==◌, List, [], ◌∷◌, length, take, drop, Option, Some, None, if◌then◌else◌}

pub data Item : Type 0 where
  -- the number of the last entry, and an entry by its number as it is spelled
  last_number : Item
  entry_at : List ℕ → Item
  -- a manifest and a tag of a repository
  manifest_at : List ℕ → List ℕ → Item
  tag_at : List ℕ → List ℕ → Item
  -- a digest that a manifest of a repository names, and one that it lists
  named_at : List ℕ → List ℕ → List ℕ → Item
  child_at : List ℕ → List ℕ → List ℕ → Item
  -- a link of a repository
  link_at : List ℕ → List ℕ → Item
  -- the blob of a digest
  blob_at : List ℕ → Item
  -- nothing: the key is spelled as none of its table is
  none_at : Item
  -- something of another table
  elsewhere : Item

-- ---- parts of keys

-- one byte more in front of a text
abbrev pub with_byte : ℕ → Option (List ℕ × List ℕ) → Option (List ℕ × List ℕ)
with_byte byte None = None
with_byte byte (Some p) = Some (byte ∷ p.0, p.1)

-- the text that a zero byte ends, and what is behind it
abbrev pub ended_at : List ℕ → Option (List ℕ × List ℕ)
ended_at [] = None
ended_at (zero ∷ key) = Some ([], key)
ended_at (suc byte ∷ key) = with_byte (suc byte) (ended_at key)

-- how many bytes a digest has
abbrev pub digest_length : ℕ
digest_length = 33

-- of a digest
abbrev pub of_digest : (List ℕ → Item) → List ℕ → Item
of_digest item key = if length key == digest_length then item key else none_at

-- of a name and a digest
abbrev pub of_spot : (List ℕ → List ℕ → Item) → Option (List ℕ × List ℕ) → Item
of_spot item None = none_at
of_spot item (Some p) = of_digest (item p.0) p.1

-- of a name and two digests
abbrev pub of_pair : (List ℕ → List ℕ → List ℕ → Item) → Option (List ℕ × List ℕ) → Item
of_pair item None = none_at
of_pair item (Some p) = of_digest (item p.0 (take digest_length p.1)) (drop digest_length p.1)

-- of a name, and a tag with its zero byte
abbrev pub of_tag_end : List ℕ → Option (List ℕ × List ℕ) → Item
of_tag_end name None = none_at
of_tag_end name (Some (tag, [])) = tag_at name tag
of_tag_end name (Some (tag, b ∷ bs)) = none_at

abbrev pub of_tag : Option (List ℕ × List ℕ) → Item
of_tag None = none_at
of_tag (Some p) = of_tag_end p.0 (ended_at p.1)

-- of the registry itself: only the last number is told from entries
abbrev pub of_meta : List ℕ → Item
of_meta [] = elsewhere
of_meta (b ∷ []) = if b == 3 then last_number else elsewhere
of_meta (b ∷ c ∷ bs) = elsewhere

-- ---- keys

abbrev pub in_table : ℕ → List ℕ → Item
in_table table key =
    if table == 0 then of_meta key
    else if table == 1 then entry_at key
    else if table == 2 then of_spot manifest_at (ended_at key)
    else if table == 4 then of_tag (ended_at key)
    else if table == 5 then of_pair named_at (ended_at key)
    else if table == 6 then of_pair child_at (ended_at key)
    else if table == 7 then of_spot link_at (ended_at key)
    else if table == 8 then of_digest blob_at key
    else elsewhere

-- what a key is of: its table's number comes first
abbrev pub item_of : List ℕ → Item
item_of [] = elsewhere
item_of (table ∷ key) = in_table table key
