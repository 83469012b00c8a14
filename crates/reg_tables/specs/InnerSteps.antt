-- The proof's own: no public clause cites what stands here.
-- What each thing that entries do makes of what a journal left.
use Rattle.std.specs.Prelude.{ℕ, ◌++◌, ◌&&◌, List, [], ◌∷◌, Option, Some, None, if◌then◌else◌}
use Rattle.reg_names.specs.Named.{has_digest}
use Rattle.reg_names.specs.declared.kind.Kind.{Kind}
use Rattle.reg_names.specs.declared.named.Named.{Named}
use Rattle.reg_journal.specs.declared.entry.Entry.{Entry}
use Rattle.reg_journal.specs.Past.{Past}
use Rattle.reg_journal.specs.declared.past.Condemned.{Condemned}
use Rattle.reg_journal.specs.declared.entry.What.{What}
use Rattle.reg_journal.specs.declared.entry.What.TheVariants.{Put, SetTag, DropTag, DropManifest, Mark, Link, Unlink, Brought, BroughtLink, BroughtTag, RemovedManifest, RemovedLink, Opened, BroughtBlob, Collect, DropLink, Doom, Erase}
use Rattle.reg_journal.specs.Changes.{is_same, with_one, with_manifest, with_tag, without_tags, with_link, with_condemned, link_of, condemned_at, kept_size, names_digest, points_to, touched}
use Rattle.reg_entries.specs.Documents.{KeptManifest, kept_of}
use Rattle.reg_entries.specs.State.{lists_child}
use Rattle.keeper_api.specs.Rows as keys
use Rattle.keeper_api.specs.Rows.{Rows}
use Rattle.reg_tables.specs.Derived.{is_beside_manifest, takes}
use Rattle.reg_tables.specs.Keys.{blob_queue_key}
use Rattle.reg_tables.specs.declared.rows.BlobRow.{BlobRow}
use Rattle.reg_tables.specs.declared.rows.BlobRow.TheVariants.{Pending, Here, Doomed}

-- an entry more stands in the journal
abbrev pub logged : Entry → Past → Past
logged entry past = record past { entries = past.entries ++ entry ∷ [] }

-- manifests of a repository with these digests are touched
abbrev pub touched_manifests : List ℕ → List (List ℕ) → ℕ → Past → Past
touched_manifests name digests now past = record past {
  manifest_touched = λ of digest. if is_same name of && has_digest digest digests then Some now else past.manifest_touched of digest;
}

-- blobs of these digests are touched
abbrev pub touched_blobs : List (List ℕ) → ℕ → Past → Past
touched_blobs digests now past = record past {
  blob_touched = λ digest. if has_digest digest digests then Some now else past.blob_touched digest;
}

-- a digest is rowed, with this size
abbrev pub with_size : List ℕ → Option (Option ℕ) → Past → Past
with_size digest size past = record past { sizes = with_one past.sizes digest size }

-- a blob is about to come, or is here
abbrev pub marked : List ℕ → ℕ → Past → Past
marked digest now past = touched_blobs (digest ∷ []) now (with_size digest (kept_size (past.sizes digest)) past)

abbrev pub come : List ℕ → ℕ → ℕ → Past → Past
come digest size now past = touched_blobs (digest ∷ []) now (with_size digest (Some (Some size)) past)

-- a blob stands so
abbrev pub with_blob : List ℕ → Option Condemned → Option (Option ℕ) → Option ℕ → Past → Past
with_blob digest condemned size touched past = record past {
  condemned = with_one past.condemned digest condemned;
  sizes = with_one past.sizes digest size;
  blob_touched = with_one past.blob_touched digest touched;
}

-- a digest is condemned no more, and has no row
abbrev pub erased : List ℕ → Past → Past
erased digest past = with_blob digest None None (past.blob_touched digest) past

-- a manifest of a repository stands, of this kind and size, and with these lists
abbrev pub with_lists : List ℕ → List ℕ → Kind → ℕ → List Named → List (List ℕ) → Past → Past
with_lists name digest kind size named children past = with_manifest name digest (Some (kept_of kind size named children)) past

-- a manifest of a repository stands, and is touched
abbrev pub stored : List ℕ → List ℕ → KeptManifest → ℕ → Past → Past
stored name digest doc now past = touched_manifests name (digest ∷ []) now (with_manifest name digest (Some doc) past)

-- it goes: what it listed and named is touched
abbrev pub removed : List ℕ → List ℕ → ℕ → Past → Past
removed name digest now past = record (with_manifest name digest None past) {
  manifest_touched = λ of other.
      touched (is_same name of && lists_child other (past.manifests name digest)) now (past.manifest_touched of other);
  blob_touched = λ other. touched (names_digest other (past.manifests name digest)) now (past.blob_touched other);
}

-- the manifest that a tag points to is touched
abbrev pub touched_target : List ℕ → List ℕ → ℕ → Past → Past
touched_target name tag now past = record past {
  manifest_touched = λ of other.
      touched (is_same name of && points_to other (past.tags name tag)) now (past.manifest_touched of other);
}

-- a tag points to a manifest, or is gone; what it points to and pointed to is touched
abbrev pub pointed : List ℕ → List ℕ → List ℕ → ℕ → Past → Past
pointed name tag digest now past =
    touched_manifests name (digest ∷ []) now (with_tag name tag (Some digest) (touched_target name tag now past))

abbrev pub unpointed : List ℕ → List ℕ → ℕ → Past → Past
unpointed name tag now past = with_tag name tag None (touched_target name tag now past)

-- a manifest goes, with the tags to it
abbrev pub untagged : List ℕ → List ℕ → ℕ → Past → Past
untagged name digest now past = without_tags name digest (removed name digest now past)

-- a blob of a size is here, and a repository links it; or it links it no more
abbrev pub linked : List ℕ → List ℕ → ℕ → ℕ → Past → Past
linked name digest size now past = come digest size now (with_link name digest (Some (link_of size now)) past)

abbrev pub unlinked : List ℕ → List ℕ → ℕ → Past → Past
unlinked name digest now past = touched_blobs (digest ∷ []) now (with_link name digest None past)

-- what an entry with this number and moment makes of it, the journal aside
abbrev pub made : ℕ → ℕ → What → Past → Past
made number now (Put name digest doc) past = stored name digest doc now past
made number now (SetTag name tag digest) past = pointed name tag digest now past
made number now (DropTag name tag) past = unpointed name tag now past
made number now (DropManifest name digest) past = removed name digest now past
made number now (Mark digest) past = marked digest now past
made number now (Link name digest size) past = linked name digest size now past
made number now (Unlink name digest) past = unlinked name digest now past
made number now (Brought name digest doc) past = stored name digest doc now past
made number now (BroughtLink name digest size) past = linked name digest size now past
made number now (BroughtTag name tag digest) past = pointed name tag digest now past
made number now (RemovedManifest name digest) past = untagged name digest now past
made number now (RemovedLink name digest) past = unlinked name digest now past
made number now Opened past = past
made number now (BroughtBlob digest size) past = come digest size now past
made number now (Collect name digest) past = removed name digest now past
made number now (DropLink name digest) past = unlinked name digest now past
made number now (Doom digest) past = with_condemned digest (Some (condemned_at number now)) past
made number now (Erase digest) past = erased digest past

-- the rows without those beside a manifest, and beside a blob
abbrev pub without_beside_manifest : List ℕ → List ℕ → Rows → Rows
without_beside_manifest name digest rows = λ key. if is_beside_manifest name digest key then None else rows key

abbrev pub without_beside_blob : List ℕ → Rows → Rows
without_beside_blob digest rows = λ key. if keys.is_at (blob_queue_key digest) key then None else rows key

-- the rows without those that an entry takes away beside its own
abbrev pub without_beside : What → Rows → Rows
without_beside what rows = λ key. if takes what key then None else rows key

-- how a blob stands that is touched, that is about to come, and that is here
abbrev pub touched_row : ℕ → BlobRow → BlobRow
touched_row now (Pending moment) = Pending now
touched_row now (Here size moment) = Here size now
touched_row now (Doomed entry) = Doomed entry

abbrev pub marked_row : ℕ → Option BlobRow → BlobRow
marked_row now None = Pending now
marked_row now (Some row) = touched_row now row

abbrev pub come_row : ℕ → ℕ → Option BlobRow → BlobRow
come_row size now None = Here size now
come_row size now (Some (Pending moment)) = Here size now
come_row size now (Some (Here before moment)) = Here size now
come_row size now (Some (Doomed entry)) = Doomed entry
