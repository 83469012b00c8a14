-- The proof's own: no public clause cites what stands here.
use Rattle.std.specs.Prelude.{◌≡◌, ℕ, List, length, Option, Some, None, Result, IfOk, option_and_then}
use Rattle.manifest_doc.specs.declared.document.Doc.{Doc}
use Rattle.manifest_doc.specs.Stored.{stored_in}
use Rattle.reg_entries.specs.Documents.{kept_of}
use Rattle.reg_entries.specs.State.{State}
use Rattle.reg_entries.specs.declared.trouble.Trouble.{Trouble}
use Rattle.reg_journal.specs.Changes.{replay}
use Rattle.reg_journal.specs.Past.{shown}
use Rattle.reg_journal.specs.declared.entry.Entry.{Entry}
use Rattle.keeper_api.specs.Rows.{Rows, Kept}
use Rattle.reg_tables.specs.Keys.{payload_key}
use Rattle.tables_service.specs.Telling.{AreTablesOf}

-- the manifest that a payload row has under a digest, or that it has none
abbrev pub FindsPayload : List ℕ → Option (List ℕ) → Option (Doc × List ℕ) → Type 0
FindsPayload digest row (Some found) = (row ≡ Some found.1) × (stored_in digest found.1 ≡ Some found.0)
FindsPayload digest row None = option_and_then (stored_in digest) row ≡ None

-- the document and the bytes of the manifest that a repository has under a digest, or that it has none
abbrev pub FindsKept : State → Rows → List ℕ → List ℕ → Option (Doc × List ℕ) → Type 0
FindsKept state rows name digest (Some m) =
    (state.manifests name digest ≡ Some (kept_of m.0.kind (length m.1) m.0.named m.0.children))
    × (rows (payload_key name digest) ≡ Some m.1)
FindsKept state rows name digest None = state.manifests name digest ≡ None

-- what was found is right of tables with the bytes of their manifests
abbrev pub FindsWith : {A : Type 0} → Kept → Result A Trouble → (State → Rows → A → Type 0) → Type 0
FindsWith kept result Fits =
    (journal : List Entry) → AreTablesOf journal kept → IfOk result (Fits (shown (replay journal)) kept.rows)
