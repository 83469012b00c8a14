-- The parts of each place's path, and that it is a path.
use Rattle.std.proofs.Common.{◌≡◌, ℕ, suc, ◌+◌, ◌≤◌, List, ◌∷◌, ◌++◌, codes, lit≤, refl, ap, ◌∙◌, arith}
use Rattle.std.specs.List.{list_all}
use Rattle.reg_names.specs.Names.{IsName}
use Rattle.reg_names.specs.Tags.{IsTag}
use Rattle.reg_names.specs.Digests.{IsDigest}
use Rattle.reg_names.specs.UploadIds.{IsUploadId, upload_id_text}
use Rattle.depot_api.specs.Paths.{parts_of, is_part, IsPath}
use Rattle.link_paths.specs.declared.place.Place.{Place}
use Rattle.link_paths.specs.declared.place.Place.TheVariants.{BlobData, Revision, TagCurrent, TagIndex, Layer, UploadData, UploadStarted}
use Rattle.link_paths.specs.Places.{digits, in_repository, place_text, place_path, IsPlace}
use Rattle.link_paths.specs.Folders.{current_link, digest_link, place_parts, repository_folder}
use Rattle.link_paths.specs.InnerParts.{IsTail}
use Rattle.link_paths.proofs.Parts.{Spells, literal, joined, IsPath-spelled}
use Rattle.link_paths.proofs.NameParts.{name_spelled}
use Rattle.link_paths.proofs.KeyParts.{tag_spelled, digits_spelled, first_spelled, id_spelled}

-- ---- what follows a repository's name

-- a link that is named by its digest, in some folder
in_folder : {m : ℕ} {folder : List ℕ} {parts : List (List ℕ)} (digest : List ℕ) → IsDigest digest → Spells m folder parts → Spells (suc (m + 76)) (folder ++ (codes "/sha256/" ++ (digits digest ++ codes "/link"))) (parts ++ digest_link digest)
in_folder digest h s = joined s (joined (literal 6 (codes "sha256") refl refl) (joined (digits_spelled digest h) (literal 4 (codes "link") refl refl)))

pub revision_spelled : (digest : List ℕ) → IsDigest digest → Spells 97 (codes "_manifests/revisions/sha256/" ++ (digits digest ++ codes "/link")) (codes "_manifests" ∷ codes "revisions" ∷ digest_link digest)
revision_spelled digest h = in_folder digest h (literal 20 (codes "_manifests/revisions") refl refl)

pub layer_spelled : (digest : List ℕ) → IsDigest digest → Spells 84 (codes "_layers/sha256/" ++ (digits digest ++ codes "/link")) (codes "_layers" ∷ digest_link digest)
layer_spelled digest h = in_folder digest h (literal 7 (codes "_layers") refl refl)

pub current_spelled : (tag : List ℕ) → IsTag tag → Spells 157 (codes "_manifests/tags/" ++ (tag ++ codes "/current/link")) (codes "_manifests" ∷ codes "tags" ∷ current_link tag)
current_spelled tag h = joined (literal 15 (codes "_manifests/tags") refl refl) (joined (tag_spelled tag h) (literal 12 (codes "current/link") refl refl))

pub index_spelled : (tag digest : List ℕ) → IsTag tag → IsDigest digest → Spells 227 (codes "_manifests/tags/" ++ (tag ++ (codes "/index/sha256/" ++ (digits digest ++ codes "/link")))) (codes "_manifests" ∷ codes "tags" ∷ tag ∷ codes "index" ∷ digest_link digest)
index_spelled tag digest h k = joined (literal 15 (codes "_manifests/tags") refl refl) (joined (tag_spelled tag h) (in_folder digest k (literal 5 (codes "index") refl refl)))

pub upload_spelled : {n : ℕ} {file : List ℕ} {parts : List (List ℕ)} (id : List ℕ) → IsUploadId id → Spells n file parts → Spells (suc (8 + suc (36 + n))) (codes "_uploads/" ++ (upload_id_text id ++ 47 ∷ file)) (codes "_uploads" ∷ upload_id_text id ∷ parts)
upload_spelled id h s = joined (literal 8 (codes "_uploads") refl refl) (joined (id_spelled id h) s)

pub IsTail-spelled : {n : ℕ} {text : List ℕ} {parts : List (List ℕ)} → Spells n text parts → n ≤ 1000 → IsTail text
IsTail-spelled {n} {text} {parts} s few = record { parts = ap (list_all is_part) s.are ∙ s.all; short = omega (arith, s.short, few) }

-- ---- each place

repository_spelled : {n : ℕ} {text : List ℕ} {parts : List (List ℕ)} (name : List ℕ) → IsName name → Spells n text parts → Spells (suc (31 + suc (255 + n))) (in_repository name text) (repository_folder name ++ parts)
repository_spelled name h s = joined (literal 31 (codes "docker/registry/v2/repositories") refl refl) (joined (name_spelled name h) s)

record IsSpelled (place : Place) : Type 0 where
  size : ℕ
  spelled : Spells size (place_text place) (place_parts place)
  few : size ≤ 4096

is_spelled : (place : Place) → IsPlace place → IsSpelled place
is_spelled (BlobData d) h = record {
  size = _;
  spelled = joined (literal 31 (codes "docker/registry/v2/blobs/sha256") refl refl) (joined (first_spelled d h) (joined (digits_spelled d h) (literal 4 (codes "data") refl refl)));
  few = lit≤ tt;
}
is_spelled (Revision n d) h = record { size = _; spelled = repository_spelled n h.0 (revision_spelled d h.1); few = lit≤ tt }
is_spelled (TagCurrent n t) h = record { size = _; spelled = repository_spelled n h.0 (current_spelled t h.1); few = lit≤ tt }
is_spelled (TagIndex n t d) h = record { size = _; spelled = repository_spelled n h.0 (index_spelled t d h.1.0 h.1.1); few = lit≤ tt }
is_spelled (Layer n d) h = record { size = _; spelled = repository_spelled n h.0 (layer_spelled d h.1); few = lit≤ tt }
is_spelled (UploadData n u) h = record { size = _; spelled = repository_spelled n h.0 (upload_spelled u h.1 (literal 4 (codes "data") refl refl)); few = lit≤ tt }
is_spelled (UploadStarted n u) h = record { size = _; spelled = repository_spelled n h.0 (upload_spelled u h.1 (literal 9 (codes "startedat") refl refl)); few = lit≤ tt }

pub parts_of_place : (place : Place) → IsPlace place → place_path place ≡ place_parts place
unfolding place_path
parts_of_place place h = (is_spelled place h).spelled.are

pub IsPath-place_path : (place : Place) → IsPlace place → IsPath (place_path place)
unfolding place_path
IsPath-place_path place h = IsPath-spelled (is_spelled place h).spelled (is_spelled place h).few

-- ---- a tail in a repository

tail_spelled : (name text : List ℕ) → IsName name → IsTail text → Spells 1288 (in_repository name text) (repository_folder name ++ parts_of text)
tail_spelled name text n h = repository_spelled name n (record { are = refl; all = h.parts; short = h.short })

pub IsPath-in_repository : (name text : List ℕ) → IsName name → IsTail text → IsPath (parts_of (in_repository name text))
IsPath-in_repository name text n h = IsPath-spelled (tail_spelled name text n h) (lit≤ tt)

pub parts_in_repository : (name text : List ℕ) → IsName name → IsTail text → parts_of (in_repository name text) ≡ repository_folder name ++ parts_of text
parts_in_repository name text n h = (tail_spelled name text n h).are
