-- Where a registry's files lie: the storage layout of the Distribution registry. The text of each place
-- reads like the layout; its path is the parts of that text.
use Rattle.std.specs.Prelude.{ℕ, ◌++◌, List, codes, take, drop}
use Rattle.hex.specs.Hex.{encode_lower}
use Rattle.reg_names.specs.Names.{IsName}
use Rattle.reg_names.specs.Tags.{IsTag}
use Rattle.reg_names.specs.Digests.{IsDigest}
use Rattle.reg_names.specs.UploadIds.{IsUploadId, upload_id_text}
use Rattle.depot_api.specs.Paths.{parts_of}
use Rattle.link_paths.specs.declared.place.Place.{Place}
use Rattle.link_paths.specs.declared.place.Place.TheVariants.{BlobData, Revision, TagCurrent, TagIndex, Layer, UploadData, UploadStarted}

-- the 64 digits of a digest
abbrev pub digits : List ℕ → List ℕ
digits digest = encode_lower (drop 1 digest)

-- the text of what lies in a repository
abbrev pub in_repository : List ℕ → List ℕ → List ℕ
in_repository name inside = codes "docker/registry/v2/repositories/" ++ (name ++ (codes "/" ++ inside))

-- the text of a place's path
abbrev pub place_text : Place → List ℕ
place_text (BlobData digest) = codes "docker/registry/v2/blobs/sha256/"
    ++ (take 2 (digits digest) ++ (codes "/" ++ (digits digest ++ codes "/data")))
place_text (Revision name digest) = in_repository name
    (codes "_manifests/revisions/sha256/" ++ (digits digest ++ codes "/link"))
place_text (TagCurrent name tag) = in_repository name (codes "_manifests/tags/" ++ (tag ++ codes "/current/link"))
place_text (TagIndex name tag digest) = in_repository name
    (codes "_manifests/tags/" ++ (tag ++ (codes "/index/sha256/" ++ (digits digest ++ codes "/link"))))
place_text (Layer name digest) = in_repository name (codes "_layers/sha256/" ++ (digits digest ++ codes "/link"))
place_text (UploadData name id) = in_repository name (codes "_uploads/" ++ (upload_id_text id ++ codes "/data"))
place_text (UploadStarted name id) = in_repository name (codes "_uploads/" ++ (upload_id_text id ++ codes "/startedat"))

-- its path
unfoldable pub place_path : Place → List (List ℕ)
place_path place = parts_of (place_text place)

-- ---- the path of each kind

abbrev pub data_path : List ℕ → List (List ℕ)
data_path digest = place_path (BlobData digest)

abbrev pub layer_path : List ℕ → List ℕ → List (List ℕ)
layer_path name digest = place_path (Layer name digest)

abbrev pub revision_path : List ℕ → List ℕ → List (List ℕ)
revision_path name digest = place_path (Revision name digest)

abbrev pub tag_path : List ℕ → List ℕ → List (List ℕ)
tag_path name tag = place_path (TagCurrent name tag)

abbrev pub tag_index_path : List ℕ → List ℕ → List ℕ → List (List ℕ)
tag_index_path name tag digest = place_path (TagIndex name tag digest)

abbrev pub upload_data_path : List ℕ → List ℕ → List (List ℕ)
upload_data_path name id = place_path (UploadData name id)

abbrev pub upload_started_path : List ℕ → List ℕ → List (List ℕ)
upload_started_path name id = place_path (UploadStarted name id)

-- its names, tags, digests and ids meet their grammars
abbrev pub IsPlace : Place → Type 0
IsPlace (BlobData digest) = IsDigest digest
IsPlace (Revision name digest) = IsName name × IsDigest digest
IsPlace (TagCurrent name tag) = IsName name × IsTag tag
IsPlace (TagIndex name tag digest) = IsName name × (IsTag tag × IsDigest digest)
IsPlace (Layer name digest) = IsName name × IsDigest digest
IsPlace (UploadData name id) = IsName name × IsUploadId id
IsPlace (UploadStarted name id) = IsName name × IsUploadId id
