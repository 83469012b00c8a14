-- Reading the place of a path: what each step shows.
use Rattle.std.proofs.Common.{◌≡◌, ◌≢◌, ℕ, zero, suc, ◌<◌, true, false, List, [], ◌∷◌, ◌++◌, length, take, drop, Option, Some, None, Result, Ok, Err, IfOk, MatchOption, refl, sym, ap, ◌∙◌, subst, arith}
use Rattle.std.specs.List.{list_all, HoldsAt, AllWithin}
use Rattle.std.proofs.lemmas.Bool.{and_from, le-leb, false≢true}
use Rattle.std.proofs.lemmas.List.Folds.{list_any_none}
use Rattle.std.proofs.lemmas.List.Elements.{All-from_all_within}
use Rattle.reg_names.specs.Names.{IsName}
use Rattle.reg_names.specs.Reading.{ReadsExactly}
use Rattle.depot_api.specs.Paths.{parts_of, path_text, is_part, IsPath}
use Rattle.depot_api.proofs.PathLaws.{parts_of-path_text}
use Rattle.link_paths.specs.declared.place.Place.{Place}
use Rattle.link_paths.specs.Places.{place_path, IsPlace}
use Rattle.link_paths.specs.Folders.{inside, place_parts, folder_of}
use Rattle.link_paths.specs.InnerParts.{in_repositories, is_hidden, AreOpen, IsNameCut, ReadsInside}
use Rattle.reg_names.specs.Reading.{ReadsBack}
use Rattle.link_paths.proofs.Parts.{path_text-parts_of, same_text}
use Rattle.link_paths.proofs.NameParts.{name_spelled}
use Rattle.link_paths.proofs.HiddenParts.{found}
use Rattle.link_paths.proofs.PlaceParts.{parts_of_place}

-- ---- the cut at the first hidden part

abbrev pub IsHidden : List ℕ → Type 0
IsHidden part = is_hidden part ≡ true

abbrev pub IsOpen : List ℕ → Type 0
IsOpen part = is_hidden part ≡ false

cut_at : (parts : List (List ℕ)) (n : ℕ) → n < length parts → HoldsAt IsHidden parts n → AllWithin IsOpen parts 0 n → IsNameCut parts (take n parts) (drop n parts)
cut_at [] n some here before = absurd (omega (arith, some))
cut_at (p ∷ parts) zero some here before = record { is = refl; open_name = refl; below = record { first = p; more = parts; is = refl; hidden = here [] } }
cut_at (p ∷ parts) (suc n) some here before =
    let cut = cut_at parts n (omega (arith, some)) (λ d. here d) (λ k d low below. before (suc k) d (omega arith) (omega (arith, below))) in
    let open_first : is_hidden p ≡ false = before 0 [] (omega arith) (omega arith) in
    record { is = ap (λ ps. p ∷ ps) cut.is; open_name = rw (open_first, cut.open_name) refl; below = cut.below }

pub cut_first : (parts : List (List ℕ)) (r : Option ℕ) → MatchOption r (AllWithin IsOpen parts 0 (length parts)) (λ n. (n < length parts) × HoldsAt IsHidden parts n × AllWithin IsOpen parts 0 n) → MatchOption r (AreOpen parts) (λ n. IsNameCut parts (take n parts) (drop n parts))
cut_first parts (Some n) h = cut_at parts n h.0 h.1 h.2
cut_first parts None h = list_any_none is_hidden parts (All-from_all_within IsOpen parts h)

-- ---- the name of components

IsPath-name : (parts : List (List ℕ)) → list_all is_part parts ≡ true → IsName (path_text parts) → IsPath parts
IsPath-name [] h n = absurd (false≢true n)
IsPath-name (p ∷ ps) h n =
    and_from _ _ (and_from _ _ (le-leb 1 (length (p ∷ ps)) (omega arith)) h) (le-leb (length (path_text (p ∷ ps))) 4096 (omega (arith, (name_spelled (path_text (p ∷ ps)) n).short)))

pub name_of_parts : {E : Type 0} (parts : List (List ℕ)) (text : List ℕ) (r : Result (Option (List ℕ)) E) → list_all is_part parts ≡ true → text ≡ path_text parts → IfOk r (ReadsExactly IsName text) → IfOk r (ReadsBack IsName parts_of parts)
name_of_parts parts text (Ok (Some name)) h e read =
    let is : name ≡ path_text parts = read.0 ∙ e in
    (subst IsName (sym read.0) read.1, ap parts_of is ∙ parts_of-path_text parts (IsPath-name parts h (subst IsName e read.1)))
name_of_parts parts text (Ok None) h e read = λ name n at. read (subst IsName (sym (path_text-parts_of name) ∙ ap path_text at ∙ sym e) n)
name_of_parts parts text (Err x) h e read = tt

-- ---- what lies in a repository

pub inside_read : {E : Type 0} (parts names rest : List (List ℕ)) (name : List ℕ) (r : Result (Option Place) E) → IsNameCut parts names rest → parts_of name ≡ names → ReadsInside name rest r → IfOk r (ReadsBack IsPlace place_parts (in_repositories parts))
inside_read parts names rest name (Ok (Some place)) cut is read =
    let front : place_parts place ≡ in_repositories (parts_of name ++ inside place) = ap (λ of. folder_of of ++ inside place) read.0.1 in
    let whole : in_repositories (parts_of name ++ inside place) ≡ in_repositories parts = rw (is, read.1, cut.is) refl in
    (read.0.0, front ∙ whole)
inside_read parts names rest name (Ok None) cut is read = λ place h e.
    let at = found place names rest h cut.open_name cut.below (e ∙ ap in_repositories cut.is) in
    let same : at.name ≡ name = same_text at.name name (at.same_names ∙ sym is) in
    read place (h, at.of ∙ ap Some same) at.same_rest
inside_read parts names rest name (Err x) cut is read = tt

pub no_name : (parts names rest : List (List ℕ)) → IsNameCut parts names rest → ((name : List ℕ) → IsName name → parts_of name ≢ names) → (place : Place) → IsPlace place → place_parts place ≢ in_repositories parts
no_name parts names rest cut none place h e =
    let at = found place names rest h cut.open_name cut.below (e ∙ ap in_repositories cut.is) in
    none at.name at.is_name at.same_names

-- ---- the place of a path

pub by_path : {E : Type 0} (path : List (List ℕ)) (r : Result (Option Place) E) → IfOk r (ReadsBack IsPlace place_parts path) → IfOk r (ReadsBack IsPlace place_path path)
by_path path (Ok (Some place)) read = (read.0, parts_of_place place read.0 ∙ read.1)
by_path path (Ok None) read = λ place h e. read place h (sym (parts_of_place place h) ∙ e)
by_path path (Err x) read = tt
