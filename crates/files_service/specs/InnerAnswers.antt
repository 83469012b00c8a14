-- The proof's own: no public clause cites what stands here.
use Rattle.std.specs.Prelude.{◌≡◌, ℕ, List, length, Option, Some, None, ⊤}
use Rattle.reg_names.specs.declared.reference.Reference.{Reference}
use Rattle.depot_api.specs.Blobs.{Rest}
use Rattle.depot_api.specs.Files.{Files}
use Rattle.link_reading.specs.Answers.{HasManifest}
use Rattle.link_reading.specs.Meaning.{Means, data_at}
use Rattle.link_reading.specs.declared.manifests.StoredManifest.{StoredManifest}
use Rattle.reg_model.specs.Answers.{referred}

-- a blob that the repository links, with the size of the link, or that it links none
abbrev pub FindsBlob : {B : Type 0} → (B → Rest) → List ℕ → List ℕ → Files → Option B → Type 0
FindsBlob rest name digest files (Some blob) =
    ((Means files).links name digest ≡ Some (length (rest blob).bytes)) × (data_at files digest ≡ Some (rest blob).bytes)
FindsBlob rest name digest files None = (Means files).links name digest ≡ None

-- the repository has no manifest under a digest, where there is one
abbrev pub LacksManifest : Files → List ℕ → Option (List ℕ) → Type 0
LacksManifest files name None = ⊤
LacksManifest files name (Some digest) = (Means files).manifests name digest ≡ None

-- the manifest that a reference stands for, or that the repository has none there
abbrev pub FindsReferred : Files → List ℕ → Option Reference → Option StoredManifest → Type 0
FindsReferred files name at (Some m) =
    (referred (Means files) name at ≡ Some m.digest) × HasManifest files name m.digest m.doc m.bytes
FindsReferred files name at None = LacksManifest files name (referred (Means files) name at)
