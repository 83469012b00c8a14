-- The rows that a journal derives.
use Rattle.std.specs.Prelude.{◌≡◌, ℕ, ◌+◌, ◌≤◌, ◌||◌, Bool, false, List, [], ◌∷◌, ◌++◌, length, Option, Some, None, option_map, if◌then◌else◌}
use Rattle.std.specs.List.{list_any}
use Rattle.reg_names.specs.Named.{free_in, has_digest}
use Rattle.reg_entries.specs.Documents.{KeptManifest}
use Rattle.reg_journal.specs.declared.entry.Entry.{Entry}
use Rattle.reg_journal.specs.declared.entry.What.{What}
use Rattle.reg_journal.specs.declared.entry.What.TheVariants.{DropManifest, RemovedManifest, Collect, Erase}
use Rattle.reg_journal.specs.declared.past.KeptLink.{KeptLink}
use Rattle.reg_journal.specs.declared.past.Condemned.{Condemned}
use Rattle.reg_journal.specs.Changes.{is_same, replay}
use Rattle.reg_journal.specs.Past.{Past}
use Rattle.reg_journal.specs.Spelling.{number_field, kind_field, free_field, entry_spelled}
use Rattle.keeper_api.specs.Rows.{Rows}
use Rattle.keeper_api.specs.Rows as keys
use Rattle.reg_tables.specs.Keys.{payload_key, manifest_queue_key, blob_queue_key}
use Rattle.reg_tables.specs.Items.{Item, last_number, entry_at, manifest_at, tag_at, named_at, child_at, link_at, blob_at, none_at, elsewhere, item_of}

-- ---- rows, each by what it is of

-- the number of the last entry, where there is one
abbrev pub last_row : List Entry → Option (List ℕ)
last_row [] = None
last_row (entry ∷ entries) = Some (number_field (length entries + 1))

-- the entry whose number is spelled so, where the first one has this number
abbrev pub entry_row : ℕ → List Entry → List ℕ → Option (List ℕ)
entry_row number [] spelled = None
entry_row number (entry ∷ entries) spelled =
    if is_same (number_field number) spelled then Some (entry_spelled entry) else entry_row (number + 1) entries spelled

-- a moment, or 0 where there is none
abbrev pub or_zero : Option ℕ → ℕ
or_zero None = 0
or_zero (Some moment) = moment

-- a manifest's kind, its size, and when it was touched last
abbrev pub manifest_row : Option KeptManifest → Option ℕ → Option (List ℕ)
manifest_row manifest touched =
    option_map (λ m. kind_field m.kind ++ (number_field m.size ++ number_field (or_zero touched))) manifest

-- whether a digest that the manifest names is free
abbrev pub named_row : List ℕ → Option KeptManifest → Option (List ℕ)
named_row digest None = None
named_row digest (Some manifest) = option_map free_field (free_in digest manifest.named)

-- nothing more of a digest that it lists
abbrev pub child_row : List ℕ → Option KeptManifest → Option (List ℕ)
child_row digest None = None
child_row digest (Some manifest) = if has_digest digest manifest.children then Some [] else None

-- a link's size, and its moment
abbrev pub link_row : Option KeptLink → Option (List ℕ)
link_row link = option_map (λ l. number_field l.size ++ number_field l.moment) link

-- a blob is pending, or here with its size, where its digest is rowed; touched then
abbrev pub standing_row : Option ℕ → ℕ → List ℕ
standing_row None touched = 1 ∷ number_field touched
standing_row (Some size) touched = 2 ∷ (number_field size ++ number_field touched)

-- a blob of a condemned digest is being removed since the entry of a number
abbrev pub blob_row : Option Condemned → Option (Option ℕ) → Option ℕ → Option (List ℕ)
blob_row None size touched = option_map (λ s. standing_row s (or_zero touched)) size
blob_row (Some condemned) size touched = Some (3 ∷ number_field condemned.number)

-- the row of an item by what a journal left, or as it was where it is of another table
abbrev pub row_of : Past → Item → Option (List ℕ) → Option (List ℕ)
row_of past last_number row = last_row past.entries
row_of past (entry_at number) row = entry_row 1 past.entries number
row_of past (manifest_at name digest) row = manifest_row (past.manifests name digest) (past.manifest_touched name digest)
row_of past (tag_at name tag) row = past.tags name tag
row_of past (named_at name manifest digest) row = named_row digest (past.manifests name manifest)
row_of past (child_at name parent child) row = child_row child (past.manifests name parent)
row_of past (link_at name digest) row = link_row (past.links name digest)
row_of past (blob_at digest) row = blob_row (past.condemned digest) (past.sizes digest) (past.blob_touched digest)
row_of past none_at row = None
row_of past elsewhere row = row

-- ---- the rows of a journal

abbrev pub on_items : (Item → Option (List ℕ) → Option (List ℕ)) → Rows → Rows
on_items change rows = λ key. change (item_of key) (rows key)

-- the rows, with those of what a journal left in its tables
abbrev pub with_past : Past → Rows → Rows
with_past past rows = on_items (row_of past) rows

-- the rows, with those of a journal in its tables
abbrev pub rows_of : List Entry → Rows → Rows
rows_of journal others = with_past (replay journal) others

-- a journal has at most so many entries
abbrev pub journal_limit : ℕ
journal_limit = 9000000000000000000

-- the tables of journals hold what this journal derives
pub record IsDerived (journal : List Entry) (rows : Rows) : Type 0 where
  pub derived : rows ≡ rows_of journal rows
  pub few : length journal ≤ journal_limit

-- ---- what goes with a manifest and with a blob

-- the key is that of a manifest's payload, or of its place among those that wait for a review
abbrev pub is_beside_manifest : List ℕ → List ℕ → List ℕ → Bool
is_beside_manifest name digest key =
    keys.is_at (payload_key name digest) key || keys.is_at (manifest_queue_key name digest) key

-- whether an entry takes away the manifest, or the blob, beside whose row that of the key is
abbrev pub takes : What → List ℕ → Bool
takes (DropManifest name digest) key = is_beside_manifest name digest key
takes (RemovedManifest name digest) key = is_beside_manifest name digest key
takes (Collect name digest) key = is_beside_manifest name digest key
takes (Erase digest) key = keys.is_at (blob_queue_key digest) key
takes what key = false

-- the rows without those that the entries take away beside their own
abbrev pub without_taken : List Entry → Rows → Rows
without_taken entries rows = λ key. if list_any (λ e. takes e.what key) entries then None else rows key
