-- The order of the paths below one folder.
use Rattle.std.proofs.Common.{◌≡◌, ℕ, List, [], ◌∷◌, ◌++◌, codes, drop, IsTrue, true, Ordering, Less, Equal, Greater, refl, ap, ◌∙◌, arith}
use Rattle.std.specs.Ordering.{is_lt, nat_cmp, ordering_then}
use Rattle.std.specs.Cmp.Lexicographic.{slice_cmp}
use Rattle.std.proofs.lemmas.Bool.Decides.{nat_tests}
use Rattle.reg_names.specs.Names.{IsName}
use Rattle.reg_names.specs.Tags.{IsTag}
use Rattle.reg_names.specs.Digests.{IsDigest}
use Rattle.reg_names.proofs.TextOrder.{Small, small-from, encode-cmp, raws-cmp}
use Rattle.depot_api.specs.Paths.{is_below}
use Rattle.link_paths.specs.Places.{digits, revision_path, tag_path, layer_path}
use Rattle.link_paths.specs.Folders.{tags_folder, revisions_folder, layers_folder, digest_link}
use Rattle.link_paths.proofs.FolderPlaces.{tag_begins, revision_begins, layer_begins}

-- ---- below one folder

byte_itself : (b : ℕ) → nat_cmp b b ≡ Equal
byte_itself b = grind (arith, nat_tests)

text_itself : (t : List ℕ) → slice_cmp nat_cmp t t ≡ Equal
text_itself [] = refl
text_itself (b ∷ t) = rw (byte_itself b) (text_itself t)

under_folder : (folder xs ys : List (List ℕ)) → slice_cmp (slice_cmp nat_cmp) (folder ++ xs) (folder ++ ys) ≡ slice_cmp (slice_cmp nat_cmp) xs ys
under_folder [] xs ys = refl
under_folder (part ∷ folder) xs ys = rw (text_itself part) (under_folder folder xs ys)

then_Less : (first second : Ordering) → is_lt first ≡ true → is_lt (ordering_then first second) ≡ true
then_Less Less second h = refl
then_Less Equal second h = cc h
then_Less Greater second h = cc h

then_Equal : (first : Ordering) → ordering_then first Equal ≡ first
then_Equal Less = refl
then_Equal Equal = refl
then_Equal Greater = refl

pub in_order : (folder : List (List ℕ)) (t u : List ℕ) (x y : List (List ℕ)) → IsTrue (is_lt (slice_cmp nat_cmp t u)) → IsTrue (is_below (folder ++ t ∷ x) (folder ++ u ∷ y))
in_order folder t u x y h = ap is_lt (under_folder folder (t ∷ x) (u ∷ y)) ∙ then_Less (slice_cmp nat_cmp t u) (slice_cmp (slice_cmp nat_cmp) x y) h

-- two files of one name below two folders
same_file : (folder : List (List ℕ)) (t u : List ℕ) (x : List (List ℕ)) → slice_cmp (slice_cmp nat_cmp) x x ≡ Equal → is_below (folder ++ t ∷ x) (folder ++ u ∷ x) ≡ is_lt (slice_cmp nat_cmp t u)
same_file folder t u x h =
    ap is_lt (under_folder folder (t ∷ x) (u ∷ x) ∙ ap (ordering_then (slice_cmp nat_cmp t u)) h ∙ then_Equal (slice_cmp nat_cmp t u))

pub tags_in_order : (name t u : List ℕ) → IsName name → IsTag t → IsTag u → is_below (tag_path name t) (tag_path name u) ≡ is_lt (slice_cmp nat_cmp t u)
tags_in_order name t u n ht hu = rw (tag_begins name t n ht, tag_begins name u n hu) (same_file (tags_folder name) t u (codes "current" ∷ codes "link" ∷ []) refl)

-- ---- links that are named by their digests

digits_order : (d e : List ℕ) → IsDigest d → IsDigest e → slice_cmp nat_cmp (digits d) (digits e) ≡ slice_cmp nat_cmp d e
digits_order d e h k = encode-cmp (drop 1 d) (drop 1 e) (small d h) (small e k) ∙ raws-cmp d e h k
  where
    small : (x : List ℕ) → IsDigest x → Small (drop 1 x)
    small x h = rw h.is (small-from h.raw h.bytes)

links_in_order : (folder : List (List ℕ)) (d e : List ℕ) → IsDigest d → IsDigest e → is_below (folder ++ digest_link d) (folder ++ digest_link e) ≡ is_lt (slice_cmp nat_cmp d e)
links_in_order folder d e h k =
    ap is_lt (under_folder folder (digest_link d) (digest_link e)) ∙ same_file [] (digits d) (digits e) (codes "link" ∷ []) refl ∙ ap is_lt (digits_order d e h k)

pub revisions_in_order : (name d e : List ℕ) → IsName name → IsDigest d → IsDigest e → is_below (revision_path name d) (revision_path name e) ≡ is_lt (slice_cmp nat_cmp d e)
revisions_in_order name d e n h k = rw (revision_begins name d n h, revision_begins name e n k) (links_in_order (revisions_folder name) d e h k)

pub layers_in_order : (name d e : List ℕ) → IsName name → IsDigest d → IsDigest e → is_below (layer_path name d) (layer_path name e) ≡ is_lt (slice_cmp nat_cmp d e)
layers_in_order name d e n h k = rw (layer_begins name d n h, layer_begins name e n k) (links_in_order (layers_folder name) d e h k)
