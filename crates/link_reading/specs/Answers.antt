-- What a call answers by the files.
use Rattle.std.specs.Prelude.{◌≡◌, ℕ, Bool, true, false, List, length, Option, Some, None}
use Rattle.manifest_doc.specs.declared.document.Doc.{Doc}
use Rattle.depot_api.specs.Files.{Files}
use Rattle.reg_entries.specs.State.{State, IsKnown}
use Rattle.link_reading.specs.declared.manifests.StoredManifest.{StoredManifest}
use Rattle.link_reading.specs.Meaning.{Means, kept, data_at}

-- the repository has a manifest under the digest, with this document and these bytes
pub record HasManifest (files : Files) (name digest : List ℕ) (doc : Doc) (bytes : List ℕ) : Type 0 where
  pub meant : (Means files).manifests name digest ≡ Some (kept (length bytes) doc)
  pub stored : data_at files digest ≡ Some bytes

-- the document and the bytes of the manifest that the repository has under a digest, or that it has none
abbrev pub FindsManifest : Files → List ℕ → List ℕ → Option (Doc × List ℕ) → Type 0
FindsManifest files name digest (Some found) = HasManifest files name digest found.0 found.1
FindsManifest files name digest None = (Means files).manifests name digest ≡ None

-- the manifest that a tag of the repository points to, or that the tag means nothing
abbrev pub FindsTagged : Files → List ℕ → List ℕ → Option StoredManifest → Type 0
FindsTagged files name tag (Some m) =
    ((Means files).tags name tag ≡ Some m.digest) × HasManifest files name m.digest m.doc m.bytes
FindsTagged files name tag None = (Means files).tags name tag ≡ None

-- whether a repository is known
abbrev pub Knows : State → List ℕ → Bool → Type 0
Knows state name true = IsKnown state name
Knows state name false = ¬ IsKnown state name
