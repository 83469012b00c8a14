-- The first part that begins with an underscore ends a name, and is known by the path.
use Rattle.std.proofs.Common.{◌≡◌, ℕ, ◌||◌, Bool, true, false, List, [], ◌∷◌, ◌++◌, Option, Some, None, get_or, drop, arith, refl, ap, ◌∙◌, subst}
use Rattle.std.specs.Prelude.{slice_index}
use Rattle.std.specs.List.{list_any}
use Rattle.std.proofs.lemmas.Bool.{both_ways}
use Rattle.reg_names.specs.Names.{IsName}
use Rattle.depot_api.specs.Paths.{parts_of}
use Rattle.link_paths.specs.declared.place.Place.{Place}
use Rattle.link_paths.specs.declared.place.Place.TheVariants.{BlobData, Revision, TagCurrent, TagIndex, Layer, UploadData, UploadStarted}
use Rattle.link_paths.specs.Places.{IsPlace}
use Rattle.link_paths.specs.Folders.{repository_of, inside, place_parts, folder_of}
use Rattle.link_paths.specs.InnerParts.{in_repositories, is_hidden, AreOpen, BeginsHidden}
use Rattle.link_paths.proofs.NameParts.{name_is_open}

or_false : (x y : Bool) → x || y ≡ false → (x ≡ false) × (y ≡ false)
or_false true y h = cc h
or_false false y h = (refl, h)

-- open parts before the first hidden one are known by the whole
pub same_cut : (names others rest tail : List (List ℕ)) → AreOpen names → AreOpen others → BeginsHidden rest → BeginsHidden tail → names ++ rest ≡ others ++ tail → (names ≡ others) × (rest ≡ tail)
same_cut [] [] rest tail h k below other e = (refl, e)
same_cut [] (y ∷ others) rest tail h k below other e =
    let first : y ≡ below.first = cc (e, below.is) in
    absurd (both_ways (is_hidden y) (or_false (is_hidden y) (list_any is_hidden others) k).0 (ap is_hidden first ∙ below.hidden))
same_cut (x ∷ names) [] rest tail h k below other e =
    let first : x ≡ other.first = cc (e, other.is) in
    absurd (both_ways (is_hidden x) (or_false (is_hidden x) (list_any is_hidden names) h).0 (ap is_hidden first ∙ other.hidden))
same_cut (x ∷ names) (y ∷ others) rest tail h k below other e =
    let first : x ≡ y = cc e in
    let next : names ++ rest ≡ others ++ tail = cc e in
    let same = same_cut names others rest tail (or_false (is_hidden x) (list_any is_hidden names) h).1 (or_false (is_hidden y) (list_any is_hidden others) k).1 below other next in
    (cc (first, same.0), same.1)

-- ---- what lies in a repository

pub inside_is_below : (place : Place) (name : List ℕ) → repository_of place ≡ Some name → BeginsHidden (inside place)
inside_is_below (BlobData d) name is = cc is
inside_is_below (Revision n d) name is = record { first = _; more = _; is = refl; hidden = refl }
inside_is_below (TagCurrent n t) name is = record { first = _; more = _; is = refl; hidden = refl }
inside_is_below (TagIndex n t d) name is = record { first = _; more = _; is = refl; hidden = refl }
inside_is_below (Layer n d) name is = record { first = _; more = _; is = refl; hidden = refl }
inside_is_below (UploadData n u) name is = record { first = _; more = _; is = refl; hidden = refl }
inside_is_below (UploadStarted n u) name is = record { first = _; more = _; is = refl; hidden = refl }

pub repository_name : (place : Place) (name : List ℕ) → IsPlace place → repository_of place ≡ Some name → IsName name
repository_name (BlobData d) name h is = cc is
repository_name (Revision n d) name h is = let same : n ≡ name = cc is in subst IsName same h.0
repository_name (TagCurrent n t) name h is = let same : n ≡ name = cc is in subst IsName same h.0
repository_name (TagIndex n t d) name h is = let same : n ≡ name = cc is in subst IsName same h.0
repository_name (Layer n d) name h is = let same : n ≡ name = cc is in subst IsName same h.0
repository_name (UploadData n u) name h is = let same : n ≡ name = cc is in subst IsName same h.0
repository_name (UploadStarted n u) name h is = let same : n ≡ name = cc is in subst IsName same h.0

-- the place's repository and what follows it, found in its path
pub record IsFound (place : Place) (names rest : List (List ℕ)) : Type 0 where
  pub name : List ℕ
  pub of : repository_of place ≡ Some name
  pub is_name : IsName name
  pub same_names : parts_of name ≡ names
  pub same_rest : inside place ≡ rest

found_at : (place : Place) (of : Option (List ℕ)) (names rest : List (List ℕ)) → IsPlace place → repository_of place ≡ of → AreOpen names → BeginsHidden rest → folder_of of ++ inside place ≡ in_repositories (names ++ rest) → IsFound place names rest
found_at place None names rest h is open_names below e =
    let letters : ◌≡◌ {A = ℕ} 98 114 = ap (λ parts. slice_index (get_or parts 3 []) 0) e in
    absurd (omega arith)
found_at place (Some name) names rest h is open_names below e =
    let is_name = repository_name place name h is in
    let below_all : parts_of name ++ inside place ≡ names ++ rest = ap (λ parts. drop 4 parts) e in
    let same = same_cut (parts_of name) names (inside place) rest (name_is_open name is_name) open_names (inside_is_below place name is) below below_all in
    record { name = name; of = is; is_name = is_name; same_names = same.0; same_rest = same.1 }

pub found : (place : Place) (names rest : List (List ℕ)) → IsPlace place → AreOpen names → BeginsHidden rest → place_parts place ≡ in_repositories (names ++ rest) → IsFound place names rest
found place names rest h open_names below e = found_at place (repository_of place) names rest h refl open_names below e
