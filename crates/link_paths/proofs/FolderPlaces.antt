-- What lies below the folders of a repository, and that its paths begin with them.
use Rattle.std.proofs.Common.{◌≡◌, ℕ, List, [], ◌∷◌, ◌++◌, get_or, Some, codes, inl, inr, refl, sym, ap, ◌∙◌, arith, append_assoc}
use Rattle.std.specs.Prelude.{◌⊎◌, slice_index}
use Rattle.reg_names.specs.Names.{IsName}
use Rattle.reg_names.specs.Tags.{IsTag}
use Rattle.reg_names.specs.Digests.{IsDigest}
use Rattle.reg_names.specs.UploadIds.{IsUploadId, upload_id_text}
use Rattle.depot_api.specs.Paths.{parts_of}
use Rattle.link_paths.specs.declared.place.Place.{Place}
use Rattle.link_paths.specs.declared.place.Place.TheVariants.{BlobData, Revision, TagCurrent, TagIndex, Layer, UploadData, UploadStarted}
use Rattle.link_paths.specs.Places.{revision_path, tag_path, tag_index_path, layer_path, upload_data_path, upload_started_path, place_path, IsPlace}
use Rattle.link_paths.specs.Folders.{repository_folder, tags_folder, revisions_folder, layers_folder, current_link, digest_link, repository_of, inside, IsRevisionOf, IsTagOf, IsLayerOf, IsUploadOf}
use Rattle.link_paths.specs.InnerParts.{BeginsHidden}
use Rattle.link_paths.proofs.Parts.{same_text}
use Rattle.link_paths.proofs.NameParts.{name_is_open}
use Rattle.link_paths.proofs.HiddenParts.{found}
use Rattle.link_paths.proofs.PlaceParts.{parts_of_place}

-- ---- what lies below a folder of a repository is that repository's

lies_inside : (p : Place) (name : List ℕ) (rest : List (List ℕ)) → IsPlace p → IsName name → BeginsHidden rest → place_path p ≡ repository_folder name ++ rest → (repository_of p ≡ Some name) × (inside p ≡ rest)
lies_inside p name rest h is_name below e =
    let f = found p (parts_of name) rest h (name_is_open name is_name) below (sym (parts_of_place p h) ∙ e) in
    (f.of ∙ ap Some (same_text f.name name f.same_names), f.same_rest)

below_hidden : (letters : List ℕ) (rest : List (List ℕ)) → BeginsHidden ((95 ∷ letters) ∷ rest)
below_hidden letters rest = record { first = 95 ∷ letters; more = rest; is = refl; hidden = refl }

in_manifests : (p : Place) (name : List ℕ) (rest : List (List ℕ)) → repository_of p ≡ Some name → inside p ≡ codes "_manifests" ∷ rest → IsRevisionOf name p ⊎ IsTagOf name p
in_manifests (BlobData d) name rest of e = cc of
in_manifests (Revision n d) name rest of e = inl (cc of)
in_manifests (TagCurrent n t) name rest of e = inr (cc of)
in_manifests (TagIndex n t d) name rest of e = inr (cc of)
in_manifests (Layer n d) name rest of e =
    let letters : ◌≡◌ {A = ℕ} 108 109 = ap (λ parts. slice_index (get_or parts 0 []) 1) e in
    absurd (omega arith)
in_manifests (UploadData n u) name rest of e =
    let letters : ◌≡◌ {A = ℕ} 117 109 = ap (λ parts. slice_index (get_or parts 0 []) 1) e in
    absurd (omega arith)
in_manifests (UploadStarted n u) name rest of e =
    let letters : ◌≡◌ {A = ℕ} 117 109 = ap (λ parts. slice_index (get_or parts 0 []) 1) e in
    absurd (omega arith)

in_layers : (p : Place) (name : List ℕ) (rest : List (List ℕ)) → repository_of p ≡ Some name → inside p ≡ codes "_layers" ∷ rest → IsLayerOf name p
in_layers (Layer n d) name rest of e = cc of
in_layers p name rest of e = cc (of, e)

in_uploads : (p : Place) (name : List ℕ) (rest : List (List ℕ)) → repository_of p ≡ Some name → inside p ≡ codes "_uploads" ∷ rest → IsUploadOf name p
in_uploads (UploadData n u) name rest of e = cc of
in_uploads (UploadStarted n u) name rest of e = cc of
in_uploads p name rest of e = cc (of, e)

in_tags : (p : Place) (name : List ℕ) (rest : List (List ℕ)) → repository_of p ≡ Some name → inside p ≡ codes "_manifests" ∷ codes "tags" ∷ rest → IsTagOf name p
in_tags (TagCurrent n t) name rest of e = cc of
in_tags (TagIndex n t d) name rest of e = cc of
in_tags p name rest of e = cc (of, e)

in_revisions : (p : Place) (name : List ℕ) (rest : List (List ℕ)) → repository_of p ≡ Some name → inside p ≡ codes "_manifests" ∷ codes "revisions" ∷ rest → IsRevisionOf name p
in_revisions (Revision n d) name rest of e = cc of
in_revisions p name rest of e = cc (of, e)

pub below_manifests : (name : List ℕ) (p : Place) (rest : List (List ℕ)) → IsName name → IsPlace p → place_path p ≡ repository_folder name ++ codes "_manifests" ∷ rest → IsRevisionOf name p ⊎ IsTagOf name p
below_manifests name p rest n h e = let is = lies_inside p name _ h n (below_hidden (codes "manifests") rest) e in in_manifests p name rest is.0 is.1

pub below_uploads : (name : List ℕ) (p : Place) (rest : List (List ℕ)) → IsName name → IsPlace p → place_path p ≡ repository_folder name ++ codes "_uploads" ∷ rest → IsUploadOf name p
below_uploads name p rest n h e = let is = lies_inside p name _ h n (below_hidden (codes "uploads") rest) e in in_uploads p name rest is.0 is.1

pub below_tags : (name : List ℕ) (p : Place) (rest : List (List ℕ)) → IsName name → IsPlace p → place_path p ≡ tags_folder name ++ rest → IsTagOf name p
below_tags name p rest n h e =
    let is = lies_inside p name _ h n (below_hidden (codes "manifests") (codes "tags" ∷ rest)) (e ∙ append_assoc (repository_folder name) (codes "_manifests" ∷ codes "tags" ∷ []) rest) in
    in_tags p name rest is.0 is.1

pub below_revisions : (name : List ℕ) (p : Place) (rest : List (List ℕ)) → IsName name → IsPlace p → place_path p ≡ revisions_folder name ++ rest → IsRevisionOf name p
below_revisions name p rest n h e =
    let is = lies_inside p name _ h n (below_hidden (codes "manifests") (codes "revisions" ∷ rest)) (e ∙ append_assoc (repository_folder name) (codes "_manifests" ∷ codes "revisions" ∷ []) rest) in
    in_revisions p name _ is.0 is.1

pub below_layers : (name : List ℕ) (p : Place) (rest : List (List ℕ)) → IsName name → IsPlace p → place_path p ≡ layers_folder name ++ rest → IsLayerOf name p
below_layers name p rest n h e =
    let is = lies_inside p name _ h n (below_hidden (codes "layers") rest) (e ∙ append_assoc (repository_folder name) (codes "_layers" ∷ []) rest) in
    in_layers p name _ is.0 is.1

-- ---- each path begins with its folder's

pub tag_begins : (name tag : List ℕ) → IsName name → IsTag tag → tag_path name tag ≡ tags_folder name ++ current_link tag
tag_begins name tag n t = parts_of_place (TagCurrent name tag) (n, t) ∙ sym (append_assoc (repository_folder name) (codes "_manifests" ∷ codes "tags" ∷ []) (current_link tag))

pub tag_index_begins : (name tag digest : List ℕ) → IsName name → IsTag tag → IsDigest digest → tag_index_path name tag digest ≡ tags_folder name ++ tag ∷ codes "index" ∷ digest_link digest
tag_index_begins name tag digest n t h = parts_of_place (TagIndex name tag digest) (n, (t, h)) ∙ sym (append_assoc (repository_folder name) (codes "_manifests" ∷ codes "tags" ∷ []) (tag ∷ codes "index" ∷ digest_link digest))

pub revision_begins : (name digest : List ℕ) → IsName name → IsDigest digest → revision_path name digest ≡ revisions_folder name ++ digest_link digest
revision_begins name digest n h = parts_of_place (Revision name digest) (n, h) ∙ sym (append_assoc (repository_folder name) (codes "_manifests" ∷ codes "revisions" ∷ []) (digest_link digest))

pub layer_begins : (name digest : List ℕ) → IsName name → IsDigest digest → layer_path name digest ≡ layers_folder name ++ digest_link digest
layer_begins name digest n h = parts_of_place (Layer name digest) (n, h) ∙ sym (append_assoc (repository_folder name) (codes "_layers" ∷ []) (digest_link digest))

pub upload_data_begins : (name id : List ℕ) → IsName name → IsUploadId id → upload_data_path name id ≡ repository_folder name ++ codes "_uploads" ∷ upload_id_text id ∷ codes "data" ∷ []
upload_data_begins name id n h = parts_of_place (UploadData name id) (n, h)

pub upload_started_begins : (name id : List ℕ) → IsName name → IsUploadId id → upload_started_path name id ≡ repository_folder name ++ codes "_uploads" ∷ upload_id_text id ∷ codes "startedat" ∷ []
upload_started_begins name id n h = parts_of_place (UploadStarted name id) (n, h)
