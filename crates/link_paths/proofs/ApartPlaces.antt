-- No two places have one path.
use Rattle.std.proofs.Common.{◌≡◌, ℕ, List, [], ◌++◌, get_or, drop, Option, Some, None, codes, nat_eq, if◌then◌else◌, refl, sym, ap, ◌∙◌, arith}
use Rattle.std.specs.Prelude.{slice_index, unwrap_or}
use Rattle.std.specs.Cmp.Lexicographic.{pointwise}
use Rattle.reg_names.specs.Digests.{IsDigest, digest_named}
use Rattle.reg_names.specs.UploadIds.{IsUploadId, upload_id_text, upload_id_named}
use Rattle.reg_names.proofs.DigestTexts.{digest_named-text}
use Rattle.reg_names.proofs.UploadIdTexts.{named-text}
use Rattle.depot_api.specs.Paths.{parts_of}
use Rattle.link_paths.specs.declared.place.Place.{Place}
use Rattle.link_paths.specs.declared.place.Place.TheVariants.{BlobData, Revision, TagCurrent, TagIndex, Layer, UploadData, UploadStarted}
use Rattle.link_paths.specs.Places.{digits, place_path, IsPlace}
use Rattle.link_paths.specs.Folders.{repository_of, inside, folder_of, blobs_folder, place_parts}
use Rattle.reg_names.specs.Reading.{ReadsBack}
use Rattle.link_paths.proofs.Parts.{same_text}
use Rattle.link_paths.proofs.NameParts.{name_is_open}
use Rattle.link_paths.proofs.HiddenParts.{inside_is_below, repository_name, found}
use Rattle.link_paths.proofs.KeyParts.{digest_text-digits}
use Rattle.link_paths.proofs.PlaceParts.{parts_of_place}

-- ---- a place is known by its repository and what follows

digest_back : List ℕ → List ℕ
digest_back text = unwrap_or (digest_named (codes "sha256:" ++ text)) []

id_back : List ℕ → List ℕ
id_back text = unwrap_or (upload_id_named text) []

digest_is : (d : List ℕ) → IsDigest d → digest_back (digits d) ≡ d
unfolding digest_back
digest_is d h = ap (λ t. unwrap_or (digest_named t) []) (sym (digest_text-digits d h)) ∙ ap (λ o. unwrap_or o []) (digest_named-text d h)

id_is : (id : List ℕ) → IsUploadId id → id_back (upload_id_text id) ≡ id
unfolding id_back
id_is id h = ap (λ o. unwrap_or o []) (named-text id h)

abbrev at : ℕ → List (List ℕ) → List ℕ
at k parts = get_or parts k []

-- the place with these parts below this repository
abbrev place_in : List ℕ → List (List ℕ) → Place
place_in name parts =
    if pointwise nat_eq (at 0 parts) (codes "_layers") then Layer name (digest_back (at 2 parts))
    else if pointwise nat_eq (at 0 parts) (codes "_uploads") then (if pointwise nat_eq (at 2 parts) (codes "data") then UploadData name (id_back (at 1 parts)) else UploadStarted name (id_back (at 1 parts)))
    else if pointwise nat_eq (at 1 parts) (codes "revisions") then Revision name (digest_back (at 3 parts))
    else if pointwise nat_eq (at 3 parts) (codes "current") then TagCurrent name (at 2 parts)
    else TagIndex name (at 2 parts) (digest_back (at 5 parts))

abbrev place_at : Option (List ℕ) → List (List ℕ) → Place
place_at None parts = BlobData (digest_back (at 2 parts))
place_at (Some name) parts = place_in name parts

place_back : (p : Place) → IsPlace p → place_at (repository_of p) (inside p) ≡ p
place_back (BlobData d) h = ap BlobData (digest_is d h)
place_back (Revision n d) h = ap (Revision n) (digest_is d h.1)
place_back (TagCurrent n t) h = refl
place_back (TagIndex n t d) h = ap (TagIndex n t) (digest_is d h.1.1)
place_back (Layer n d) h = ap (Layer n) (digest_is d h.1)
place_back (UploadData n u) h = ap (UploadData n) (id_is u h.1)
place_back (UploadStarted n u) h = ap (UploadStarted n) (id_is u h.1)

-- ---- which the path tells

blob_at : (p : Place) (of : Option (List ℕ)) (rest : List (List ℕ)) → repository_of p ≡ of → folder_of of ++ inside p ≡ blobs_folder ++ rest → (repository_of p ≡ None) × (inside p ≡ rest)
blob_at p None rest is e = (is, ap (λ parts. drop 4 parts) e)
blob_at p (Some name) rest is e =
    let letters : ◌≡◌ {A = ℕ} 114 98 = ap (λ parts. slice_index (get_or parts 3 []) 0) e in
    absurd (omega arith)

told : (p q : Place) (of : Option (List ℕ)) → IsPlace p → IsPlace q → repository_of q ≡ of → place_parts p ≡ folder_of of ++ inside q → (repository_of p ≡ of) × (inside p ≡ inside q)
told p q None hp hq is e = blob_at p (repository_of p) (inside q) refl e
told p q (Some name) hp hq is e =
    let f = found p (parts_of name) (inside q) hp (name_is_open name (repository_name q name hq is)) (inside_is_below q name is) e in
    (f.of ∙ ap Some (same_text f.name name f.same_names), f.same_rest)

pub same_place : (p q : Place) → IsPlace p → IsPlace q → place_path p ≡ place_path q → p ≡ q
same_place p q hp hq e =
    let parts : place_parts p ≡ place_parts q = sym (parts_of_place p hp) ∙ e ∙ parts_of_place q hq in
    let same = told p q (repository_of q) hp hq refl parts in
    sym (place_back p hp) ∙ ap (λ of. place_at of (inside p)) same.0 ∙ ap (place_at (repository_of q)) same.1 ∙ place_back q hq

pub read_back : (place : Place) (found : Option Place) → IsPlace place → ReadsBack IsPlace place_path (place_path place) found → found ≡ Some place
read_back place (Some other) is read = ap Some (same_place other place read.0 is read.1)
read_back place None is read = absurd (read place is refl)
