-- What tables and a depot tell of a registry.
use Rattle.std.specs.Prelude.{◌≡◌, ℕ, List, length, Option, Some, Result, IfOk, IsTrue, option_map}
use Rattle.std.specs.List.{AllByRecursion}
use Rattle.manifest_doc.specs.declared.document.Doc.{Doc}
use Rattle.manifest_doc.specs.Stored.{IsStoredManifest}
use Rattle.depot_api.specs.Holdings.{Holding}
use Rattle.link_paths.specs.Places.{data_path, upload_data_path}
use Rattle.reg_entries.specs.Documents.{KeptManifest, kept_of}
use Rattle.reg_entries.specs.State.{State}
use Rattle.reg_entries.specs.declared.trouble.Trouble.{Trouble}
use Rattle.reg_journal.specs.Changes.{replay}
use Rattle.reg_journal.specs.Entries.{IsEntry}
use Rattle.reg_journal.specs.Past.{shown}
use Rattle.reg_journal.specs.declared.entry.Entry.{Entry}
use Rattle.reg_model.specs.Facts.{Facts, by_tables}
use Rattle.reg_model.specs.Uploads.{upload_at}
use Rattle.keeper_api.specs.Rows.{Rows, Kept}
use Rattle.reg_tables.specs.Derived.{IsDerived}
use Rattle.reg_tables.specs.Keys.{payload_key}

-- ---- tables

-- the keeper tells its rows, and they are those of this journal, which is one of entries
pub record TellsJournal (journal : List Entry) (kept : Kept) : Type 0 where
  pub tells : IsTrue kept.tells
  pub derived : IsDerived journal kept.rows
  pub entries : AllByRecursion IsEntry journal

-- the row has the bytes of this manifest: they have its digest, and are its document
pub record IsPayload (digest : List ℕ) (manifest : KeptManifest) (row : Option (List ℕ)) : Type 0 where
  pub bytes : List ℕ
  pub doc : Doc
  pub there : row ≡ Some bytes
  pub stored : IsStoredManifest digest bytes doc
  pub kept : manifest ≡ kept_of doc.kind (length bytes) doc.named doc.children

-- each manifest has its bytes in their row
abbrev pub HasPayloads : State → Rows → Type 0
HasPayloads state rows =
    (name digest : List ℕ) (manifest : KeptManifest) → state.manifests name digest ≡ Some manifest
    → IsPayload digest manifest (rows (payload_key name digest))

-- the tables are those of this journal, and have the bytes of its manifests
pub record AreTablesOf (journal : List Entry) (kept : Kept) : Type 0 where
  pub told : TellsJournal journal kept
  pub payloads : HasPayloads (shown (replay journal)) kept.rows

-- what was found is right of the state that the journal left, where the rows tell one
abbrev pub FindsIn : {A : Type 0} → Kept → Result A Trouble → (State → A → Type 0) → Type 0
FindsIn kept result Fits =
    (journal : List Entry) → TellsJournal journal kept → IfOk result (Fits (shown (replay journal)))

-- ---- the depot

-- the depot tells its files, and each blob that a repository links is one, of the link's size
pub record HasBlobs (state : State) (held : Holding) : Type 0 where
  pub tells : IsTrue held.tells
  pub blobs : (name digest : List ℕ) (size : ℕ) → state.links name digest ≡ Some size
      → option_map length (held.files (data_path digest)) ≡ Some size

-- ---- both

-- what an answer from tables depends on: what the journal left, the bytes of manifests, and the data files
abbrev pub facts_of : List Entry → Rows → Holding → Facts
facts_of journal rows held =
    record {
      phase = by_tables;
      state = shown (replay journal);
      condemned = λ digest. option_map (λ c. c.number) ((replay journal).condemned digest);
      uploads = upload_at held.files;
      busy = λ name id. held.lent (upload_data_path name id);
      manifests = λ name digest. rows (payload_key name digest);
      blobs = λ digest. held.files (data_path digest);
    }
