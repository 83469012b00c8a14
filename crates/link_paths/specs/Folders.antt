-- Paths of places by their parts: the folders of a repository, and what lies in each.
use Rattle.std.specs.Prelude.{◌≡◌, ℕ, ◌++◌, List, [], ◌∷◌, Option, Some, None, codes, take}
use Rattle.reg_names.specs.Names.{IsName}
use Rattle.reg_names.specs.UploadIds.{upload_id_text}
use Rattle.depot_api.specs.Paths.{parts_of}
use Rattle.link_paths.specs.declared.place.Place.{Place}
use Rattle.link_paths.specs.declared.place.Place.TheVariants.{BlobData, Revision, TagCurrent, TagIndex, Layer, UploadData, UploadStarted}
use Rattle.link_paths.specs.Places.{digits}
use Rattle.reg_names.specs.Reading.{ReadsBack}

-- ---- folders

-- the folder of all blobs
abbrev pub blobs_folder : List (List ℕ)
blobs_folder = codes "docker" ∷ codes "registry" ∷ codes "v2" ∷ codes "blobs" ∷ []

-- the folder of a repository
abbrev pub repository_folder : List ℕ → List (List ℕ)
repository_folder name = codes "docker" ∷ codes "registry" ∷ codes "v2" ∷ codes "repositories" ∷ parts_of name

-- the folder of its tags
abbrev pub tags_folder : List ℕ → List (List ℕ)
tags_folder name = repository_folder name ++ (codes "_manifests" ∷ codes "tags" ∷ [])

-- the folder of its links to manifests
abbrev pub revisions_folder : List ℕ → List (List ℕ)
revisions_folder name = repository_folder name ++ (codes "_manifests" ∷ codes "revisions" ∷ [])

-- the folder of its links to blobs
abbrev pub layers_folder : List ℕ → List (List ℕ)
layers_folder name = repository_folder name ++ (codes "_layers" ∷ [])

-- What the link at a path is to, for each repository with this folder; nothing only where no such link lies there.
abbrev pub ReadsBelow : (folder_of : List ℕ → List (List ℕ)) (IsIn : List ℕ → Type 0)
    (path_of : List ℕ → List ℕ → List (List ℕ)) (folder path : List (List ℕ)) → Option (List ℕ) → Type 0
ReadsBelow folder_of IsIn path_of folder path found =
    (name : List ℕ) → IsName name → folder ≡ folder_of name → ReadsBack IsIn (path_of name) path found

-- ---- what lies below

-- a link that is named by its digest
abbrev pub digest_link : List ℕ → List (List ℕ)
digest_link digest = codes "sha256" ∷ digits digest ∷ codes "link" ∷ []

-- the link of a tag to its manifest
abbrev pub current_link : List ℕ → List (List ℕ)
current_link tag = tag ∷ codes "current" ∷ codes "link" ∷ []

-- the file of a blob's bytes
abbrev pub blob_file : List ℕ → List (List ℕ)
blob_file digest = codes "sha256" ∷ take 2 (digits digest) ∷ digits digest ∷ codes "data" ∷ []

-- the repository of a place; a blob has none
abbrev pub repository_of : Place → Option (List ℕ)
repository_of (BlobData digest) = None
repository_of (Revision name digest) = Some name
repository_of (TagCurrent name tag) = Some name
repository_of (TagIndex name tag digest) = Some name
repository_of (Layer name digest) = Some name
repository_of (UploadData name id) = Some name
repository_of (UploadStarted name id) = Some name

-- a place's path below its repository, or below the folder of all blobs
abbrev pub inside : Place → List (List ℕ)
inside (BlobData digest) = blob_file digest
inside (Revision name digest) = codes "_manifests" ∷ codes "revisions" ∷ digest_link digest
inside (TagCurrent name tag) = codes "_manifests" ∷ codes "tags" ∷ current_link tag
inside (TagIndex name tag digest) = codes "_manifests" ∷ codes "tags" ∷ tag ∷ codes "index" ∷ digest_link digest
inside (Layer name digest) = codes "_layers" ∷ digest_link digest
inside (UploadData name id) = codes "_uploads" ∷ upload_id_text id ∷ codes "data" ∷ []
inside (UploadStarted name id) = codes "_uploads" ∷ upload_id_text id ∷ codes "startedat" ∷ []

-- the folder that a place's path begins with
abbrev pub folder_of : Option (List ℕ) → List (List ℕ)
folder_of None = blobs_folder
folder_of (Some name) = repository_folder name

-- the parts of a place's path
abbrev pub place_parts : Place → List (List ℕ)
place_parts place = folder_of (repository_of place) ++ inside place

-- a link of this repository to a manifest
abbrev pub IsRevisionOf : List ℕ → Place → Type 0
IsRevisionOf name (Revision of digest) = of ≡ name
IsRevisionOf name place = ⊥

-- a link of one of its tags
abbrev pub IsTagOf : List ℕ → Place → Type 0
IsTagOf name (TagCurrent of tag) = of ≡ name
IsTagOf name (TagIndex of tag digest) = of ≡ name
IsTagOf name place = ⊥

-- its link to a blob
abbrev pub IsLayerOf : List ℕ → Place → Type 0
IsLayerOf name (Layer of digest) = of ≡ name
IsLayerOf name place = ⊥

-- a file of one of its uploads
abbrev pub IsUploadOf : List ℕ → Place → Type 0
IsUploadOf name (UploadData of id) = of ≡ name
IsUploadOf name (UploadStarted of id) = of ≡ name
IsUploadOf name place = ⊥
