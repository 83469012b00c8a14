-- A path that leads somewhere is spelled as its route has it.
use Rattle.std.proofs.Common.{◌≡◌, ℕ, ◌==◌, ◌&&◌, ◌||◌, ◌++◌, Bool, true, false, List, [], ◌∷◌, length, take, drop, codes, Option, Some, None, refl, sym, ap, ◌∙◌, subst, inl, inr, append_assoc, take-append-drop, arith}
use Rattle.std.specs.Prelude.{if◌then◌else◌, option_and_then}
use Rattle.std.specs.Option.{option_map_or}
use Rattle.std.proofs.lemmas.Bool.{and_parts}
use Rattle.std.proofs.lemmas.Bool.Decides.{nat_tests}
use Rattle.reg_entries.specs.declared.route.Route.TheVariants as routes
use Rattle.reg_routes.specs.Targets.{is, begins, cut_last, Place, place, spot_in, upload_route, upload_below, upload_in, spot_by, spot_before, spot_below, path_below, IsSpelled, LeadsOnlySo}
use Rattle.std.specs.Cmp.Lexicographic.{same_text}

-- the same place is spelled in the same way
at_place : (path : List ℕ) (q p : Place) → Some q ≡ Some p → IsSpelled path q → IsSpelled path p
at_place path q p e h = let same : q ≡ p = cc in subst (IsSpelled path) same h

same_as : (text other : List ℕ) → is text other ≡ true → text ≡ other
same_as text other h = same_text text other (sym h)

-- a cut text, put together again, where that is so of what follows the first byte
joined_on : (b : ℕ) (text : List ℕ) (p : List ℕ × List ℕ) → ((q : List ℕ × List ℕ) → cut_last text ≡ Some q → text ≡ q.0 ++ 47 ∷ q.1)
    → (r : Option (List ℕ × List ℕ)) (t : Bool) → cut_last text ≡ r → (b == 47) ≡ t
    → option_map_or (λ q. Some (b ∷ q.0, q.1)) r (if t then Some ([], text) else None) ≡ Some p → b ∷ text ≡ p.0 ++ 47 ∷ p.1
joined_on b text p rest (Some q) t e f h =
    let same : (b ∷ q.0, q.1) ≡ p = cc in
    ap (λ x. b ∷ x) (rest q e) ∙ ap (λ (x : List ℕ × List ℕ). x.0 ++ 47 ∷ x.1) same
joined_on b text p rest None true e f h =
    let same : ([], text) ≡ p = cc in
    let slash : b ≡ 47 = grind (arith, nat_tests, f) in
    ap (λ x. x ∷ text) slash ∙ ap (λ (x : List ℕ × List ℕ). x.0 ++ 47 ∷ x.1) same
joined_on b text p rest None false e f h = cc h

joined : (text : List ℕ) (p : List ℕ × List ℕ) → cut_last text ≡ Some p → text ≡ p.0 ++ 47 ∷ p.1
joined [] p h = cc h
joined (b ∷ text) p h = joined_on b text p (λ q e. joined text q e) (cut_last text) (b == 47) refl refl h

-- the routes by the last two segments
by_kind : (name kind last : List ℕ) (a b c d : Bool) (p : Place) → (a ≡ true → (kind ≡ codes "tags") × (last ≡ codes "list")) → (b ≡ true → kind ≡ codes "manifests") → (c ≡ true → (kind ≡ codes "blobs") × (last ≡ codes "uploads")) → (d ≡ true → kind ≡ codes "blobs")
    → (if a then Some (place routes.Tags name []) else if b then Some (place routes.Manifest name last) else if c then Some (place routes.Uploads name []) else if d then Some (place routes.Blob name last) else None) ≡ Some p
    → IsSpelled (path_below name (47 ∷ (kind ++ 47 ∷ last))) p
by_kind name kind last true b c d p i j k l e = at_place _ _ p e (rw ((i refl).0, (i refl).1) refl)
by_kind name kind last false true c d p i j k l e = at_place _ _ p e (rw (j refl) refl)
by_kind name kind last false false true d p i j k l e = at_place _ _ p e (inl (rw ((k refl).0, (k refl).1) refl))
by_kind name kind last false false false true p i j k l e = at_place _ _ p e (rw (l refl) refl)
by_kind name kind last false false false false p i j k l e = cc e

both_same : (kind last one other : List ℕ) → is kind one && is last other ≡ true → (kind ≡ one) × (last ≡ other)
both_same kind last one other h = let parts = and_parts (is kind one) (is last other) h in (same_as kind one parts.0, same_as last other parts.1)

in_content : (name kind last : List ℕ) (p : Place) → spot_in name kind last ≡ Some p → IsSpelled (path_below name (47 ∷ (kind ++ 47 ∷ last))) p
in_content name kind last p e =
    by_kind name kind last _ _ _ _ p (both_same kind last (codes "tags") (codes "list")) (same_as kind (codes "manifests")) (both_same kind last (codes "blobs") (codes "uploads")) (same_as kind (codes "blobs")) e

-- the routes of uploads
by_id : (name id : List ℕ) (p : Place) → Some (place (upload_route id) name id) ≡ Some p → IsSpelled (path_below name (codes "/blobs/uploads/" ++ id)) p
by_id name [] p e = at_place _ _ p e (inr refl)
by_id name (b ∷ id) p e =
    let some : length (b ∷ id) == 0 ≡ false = grind (arith, nat_tests) in
    at_place _ _ p e (rw some refl)

move : {path other : List ℕ} (p : Place) → path ≡ other → IsSpelled path p → IsSpelled other p
move p e h = subst (λ t. IsSpelled t p) e h

in_upload : (front last : List ℕ) (p : Place) → upload_in front last ≡ Some p → IsSpelled (path_below front (codes "/uploads/" ++ last)) p
in_upload front last p h = by_folder front last p (cut_last front) refl h
  where
    by_test : (front last name folder : List ℕ) (p : Place) (t : Bool) → is folder (codes "blobs") ≡ t → front ≡ name ++ 47 ∷ folder
        → (if t then Some (place (upload_route last) name last) else None) ≡ Some p → IsSpelled (path_below front (codes "/uploads/" ++ last)) p
    by_test front last name folder p true f cut h =
        let whole : front ≡ name ++ codes "/blobs" = cut ∙ ap (λ t. name ++ 47 ∷ t) (same_as folder (codes "blobs") f) in
        move p (ap (λ t. codes "/v2/" ++ t) (sym (ap (λ t. t ++ (codes "/uploads/" ++ last)) whole ∙ append_assoc name (codes "/blobs") (codes "/uploads/" ++ last)))) (by_id name last p h)
    by_test front last name folder p false f cut h = cc h

    by_folder : (front last : List ℕ) (p : Place) (r : Option (List ℕ × List ℕ)) → cut_last front ≡ r → option_and_then (upload_below last) r ≡ Some p → IsSpelled (path_below front (codes "/uploads/" ++ last)) p
    by_folder front last p None e h = cc h
    by_folder front last p (Some (name, folder)) e h = by_test front last name folder p (is folder (codes "blobs")) refl (joined front (name, folder) e) h

in_segments : (name kind last : List ℕ) (p : Place) → spot_by last (name, kind) ≡ Some p → IsSpelled (path_below name (47 ∷ (kind ++ 47 ∷ last))) p
in_segments name kind last p h = by_test name kind last p (is kind (codes "uploads")) refl h
  where
    by_test : (name kind last : List ℕ) (p : Place) (t : Bool) → is kind (codes "uploads") ≡ t → (if t then upload_in name last else spot_in name kind last) ≡ Some p → IsSpelled (path_below name (47 ∷ (kind ++ 47 ∷ last))) p
    by_test name kind last p true f h =
        move p (ap (λ t. path_below name (47 ∷ (t ++ 47 ∷ last))) (sym (same_as kind (codes "uploads") f))) (in_upload name last p h)
    by_test name kind last p false f h = in_content name kind last p h

in_front : (front last : List ℕ) (p : Place) → spot_before (front, last) ≡ Some p → IsSpelled (path_below front (47 ∷ last)) p
in_front front last p h = by_cut front last p (cut_last front) refl h
  where
    by_cut : (front last : List ℕ) (p : Place) (r : Option (List ℕ × List ℕ)) → cut_last front ≡ r → option_and_then (spot_by last) r ≡ Some p → IsSpelled (path_below front (47 ∷ last)) p
    by_cut front last p None e h = cc h
    by_cut front last p (Some (name, kind)) e h =
        move p (ap (λ t. codes "/v2/" ++ t) (sym (ap (λ t. t ++ 47 ∷ last) (joined front (name, kind) e) ∙ append_assoc name (47 ∷ kind) (47 ∷ last)))) (in_segments name kind last p h)

in_rest : (rest : List ℕ) (p : Place) → spot_below rest ≡ Some p → IsSpelled (codes "/v2/" ++ rest) p
in_rest rest p h = by_cut rest p (cut_last rest) refl h
  where
    by_cut : (rest : List ℕ) (p : Place) (r : Option (List ℕ × List ℕ)) → cut_last rest ≡ r → option_and_then spot_before r ≡ Some p → IsSpelled (codes "/v2/" ++ rest) p
    by_cut rest p None e h = cc h
    by_cut rest p (Some (front, last)) e h =
        move p (ap (λ t. codes "/v2/" ++ t) (sym (joined rest (front, last) e))) (in_front front last p h)

pub only : LeadsOnlySo
only path p h = by_tests path p (is path (codes "/v2")) (is path (codes "/v2/")) (begins (codes "/v2/") path) refl refl refl h
  where
    by_tests : (path : List ℕ) (p : Place) (a b c : Bool) → is path (codes "/v2") ≡ a → is path (codes "/v2/") ≡ b → begins (codes "/v2/") path ≡ c
        → (if a || b then Some (place routes.Base [] []) else if c then spot_below (drop 4 path) else None) ≡ Some p → IsSpelled path p
    by_tests path p true b c e f g h = at_place path _ p h (inl (same_as path (codes "/v2") e))
    by_tests path p false true c e f g h = at_place path _ p h (inr (same_as path (codes "/v2/") f))
    by_tests path p false false true e f g h =
        let whole : codes "/v2/" ++ drop 4 path ≡ path = ap (λ t. t ++ drop 4 path) (sym (same_as (take 4 path) (codes "/v2/") g)) ∙ take-append-drop 4 path in
        move p whole (in_rest (drop 4 path) p h)
    by_tests path p false false false e f g h = cc h
