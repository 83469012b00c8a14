-- The tables: what each key and its row are spelled of, field by field.
use Rattle.std.specs.Prelude.{◌≡◌, ◌⊎◌, ℕ, List, [], ◌∷◌, ⊤}
use Rattle.reg_journal.specs.declared.entry.Entry.{Entry}
use Rattle.reg_journal.specs.Entries.{IsEntry}
use Rattle.reg_journal.specs.Spelling.{entry_spelled}
use Rattle.keeper_api.specs.Fields.{AreFields}
use Rattle.keeper_api.specs.declared.field.Field.{Field}
use Rattle.keeper_api.specs.declared.field.Field.TheVariants.{Byte, Number, Positive, One, Count, EndedName, EndedTag, Digest, Kind, Free, Event, Table, Path, Key}

-- ---- the forms of rows

pub data Form : Type 0 where
  -- these fields
  made_of : List Field → Form
  -- the fields of one of these lists
  one_of : List (List Field) → Form
  -- an entry of the journal
  an_entry : Form
  -- any bytes
  anything : Form

abbrev pub IsOneOf : List (List Field) → List ℕ → Type 0
IsOneOf [] row = ⊥
IsOneOf (fields ∷ others) row = AreFields fields row ⊎ IsOneOf others row

-- a row has the form
abbrev pub IsForm : Form → List ℕ → Type 0
IsForm (made_of fields) row = AreFields fields row
IsForm (one_of lists) row = IsOneOf lists row
IsForm an_entry row = (entry : Entry) × IsEntry entry × (row ≡ entry_spelled entry)
IsForm anything row = ⊤

-- how far the phase has come: files are imported, they are frozen, or the tables serve; each with the cursor of a walk
abbrev pub phases : List (List Field)
phases =
    -- importing: at the start, at a path, done
    (Byte 1 ∷ Byte 0 ∷ [])
    ∷ (Byte 1 ∷ Byte 1 ∷ Path ∷ [])
    ∷ (Byte 1 ∷ Byte 2 ∷ [])
    -- frozen: at the start of the files, at a path, at the start of the rows, at a key
    ∷ (Byte 2 ∷ Byte 0 ∷ [])
    ∷ (Byte 2 ∷ Byte 1 ∷ Path ∷ [])
    ∷ (Byte 2 ∷ Byte 2 ∷ [])
    ∷ (Byte 2 ∷ Byte 3 ∷ Table ∷ Key ∷ [])
    -- serving since the entry of this number: at the start, at a path, done
    ∷ (Byte 3 ∷ Positive ∷ Byte 0 ∷ [])
    ∷ (Byte 3 ∷ Positive ∷ Byte 1 ∷ Path ∷ [])
    ∷ (Byte 3 ∷ Positive ∷ Byte 2 ∷ [])
    ∷ []

-- how a blob stands: pending since a moment, here with its size and touched then, or condemned by the entry of a number
abbrev pub standings : List (List Field)
standings = (Byte 1 ∷ Number ∷ []) ∷ (Byte 2 ∷ Number ∷ Number ∷ []) ∷ (Byte 3 ∷ Number ∷ []) ∷ []

-- ---- the tables

-- the number of a table, the fields of a key of it, and the form of the row there
pub record Line : Type 0 where
  pub table : ℕ
  pub key : List Field
  pub row : Form

abbrev pub line : ℕ → List Field → Form → Line
line table key row = record { table = table; key = key; row = row }

-- when a review is due, how often it was put off, and the kind of the entry that touched the thing last
abbrev pub queued : Form
queued = made_of (Number ∷ Count ∷ Event ∷ [])

abbrev pub lines : List Line
lines =
    -- the version, which is 1; the delay; the phase; the number of the last entry
    line 0 (Byte 0 ∷ []) (made_of (One ∷ []))
    ∷ line 0 (Byte 1 ∷ []) (made_of (Number ∷ []))
    ∷ line 0 (Byte 2 ∷ []) (one_of phases)
    ∷ line 0 (Byte 3 ∷ []) (made_of (Number ∷ []))
    -- the journal: an entry at its number
    ∷ line 1 (Positive ∷ []) an_entry
    -- a repository's manifests: kind, size, when touched last
    ∷ line 2 (EndedName ∷ Digest ∷ []) (made_of (Kind ∷ Number ∷ Number ∷ []))
    -- their bytes
    ∷ line 3 (EndedName ∷ Digest ∷ []) anything
    -- its tags, each with the digest that it points to
    ∷ line 4 (EndedName ∷ EndedTag ∷ []) (made_of (Digest ∷ []))
    -- what a manifest names, and whether freely; and the manifests that it lists
    ∷ line 5 (EndedName ∷ Digest ∷ Digest ∷ []) (made_of (Free ∷ []))
    ∷ line 6 (EndedName ∷ Digest ∷ Digest ∷ []) (made_of [])
    -- the links of a repository: size and moment
    ∷ line 7 (EndedName ∷ Digest ∷ []) (made_of (Number ∷ Number ∷ []))
    -- the blobs
    ∷ line 8 (Digest ∷ []) (one_of standings)
    -- the manifests and the blobs that wait for a review
    ∷ line 9 (EndedName ∷ Digest ∷ []) queued
    ∷ line 10 (Digest ∷ []) queued
    ∷ []

-- the line is that of the key and its row
pub record IsOf (line : Line) (table : ℕ) (key row : List ℕ) : Type 0 where
  pub at_table : table ≡ line.table
  pub key_fields : AreFields line.key key
  pub row_form : IsForm line.row row

abbrev pub HasLine : List Line → ℕ → List ℕ → List ℕ → Type 0
HasLine [] table key row = ⊥
HasLine (l ∷ ls) table key row = IsOf l table key row ⊎ HasLine ls table key row

-- the row may stand at the key: a key is its table's number and its bytes
abbrev pub Fits : List ℕ → List ℕ → Type 0
Fits [] row = ⊥
Fits (table ∷ key) row = HasLine lines table key row
