-- The paths of each route, by their ends.
use Rattle.std.proofs.Common.{◌≡◌, ◌≢◌, ℕ, ◌==◌, ◌++◌, false, List, [], ◌∷◌, length, codes, refl, sym, ap, ◌∙◌, append_assoc, arith}
use Rattle.std.specs.Prelude.{option_and_then}
use Rattle.std.proofs.lemmas.Bool.Decides.{nat_tests}
use Rattle.reg_routes.specs.Targets.{IsFree, is, spot_by, spot_below, spot_at, upload_below, LeadsToBase, LeadsToTags, LeadsToManifests, LeadsToUploads, LeadsToUpload, LeadsToBlobs}
use Rattle.reg_routes.proofs.CuttingLaws.{cut_found}

some_left : (name : List ℕ) (b : ℕ) (rest : List ℕ) → is (name ++ b ∷ rest) [] ≡ false
some_left [] b rest = refl
some_left (a ∷ name) b rest = refl

-- behind `/v2/` stands a path of a repository, where a slash stands in it
below : (name rest : List ℕ) → spot_at (codes "/v2/" ++ (name ++ 47 ∷ rest)) ≡ spot_below (name ++ 47 ∷ rest)
below name rest = rw (some_left name 47 rest) refl

-- two segments behind the name
two_cut : (name kind last : List ℕ) → IsFree kind → IsFree last → spot_below (name ++ 47 ∷ (kind ++ 47 ∷ last)) ≡ spot_by last (name, kind)
two_cut name kind last free_kind free_last =
    let parts : name ++ 47 ∷ (kind ++ 47 ∷ last) ≡ (name ++ 47 ∷ kind) ++ 47 ∷ last = sym (append_assoc name (47 ∷ kind) (47 ∷ last)) in
    rw parts (rw (cut_found (name ++ 47 ∷ kind) last free_last, cut_found name kind free_kind) refl)

pub base : LeadsToBase
base = (refl, refl)

pub tags : LeadsToTags
tags name = below name (codes "tags/list") ∙ two_cut name (codes "tags") (codes "list") refl refl

pub manifests : LeadsToManifests
manifests name key free = below name (codes "manifests/" ++ key) ∙ two_cut name (codes "manifests") key refl free

-- the name stands before three segments
three_cut : (name id : List ℕ) → IsFree id → spot_below (name ++ 47 ∷ (codes "blobs/uploads/" ++ id)) ≡ upload_below id (name, codes "blobs")
three_cut name id free =
    let front : name ++ 47 ∷ (codes "blobs/uploads/" ++ id) ≡ (name ++ codes "/blobs") ++ (codes "/uploads/" ++ id) = sym (append_assoc name (codes "/blobs") (codes "/uploads/" ++ id)) in
    ap spot_below front ∙ two_cut (name ++ codes "/blobs") (codes "uploads") id refl free ∙ ap (option_and_then (upload_below id)) (cut_found name (codes "blobs") refl)

some_id : (id : List ℕ) → id ≢ [] → length id == 0 ≡ false
some_id [] some = absurd (some refl)
some_id (b ∷ id) some = grind (arith, nat_tests)

pub uploads : LeadsToUploads
uploads name = (
  below name (codes "blobs/uploads") ∙ two_cut name (codes "blobs") (codes "uploads") refl refl,
  below name (codes "blobs/uploads/") ∙ three_cut name [] refl,
)

pub upload : LeadsToUpload
upload name id free some = below name (codes "blobs/uploads/" ++ id) ∙ three_cut name id free ∙ rw (some_id id some) refl

pub blobs : LeadsToBlobs
blobs name key free other = below name (codes "blobs/" ++ key) ∙ two_cut name (codes "blobs") key refl free ∙ rw other refl
