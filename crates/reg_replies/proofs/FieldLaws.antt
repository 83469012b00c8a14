-- Where the parts of a field stand, in one row.
use Rattle.std.proofs.Common.{◌≡◌, ℕ, suc, ◌-◌, List, [], ◌∷◌, ◌++◌, codes, Option, Some, length, ap, ◌∙◌, refl, append_assoc, arith}
use Rattle.std.specs.Prelude.{slice_get}
use Rattle.reg_entries.specs.Listing.{last_of}
use Rattle.reg_replies.specs.Replies.{crlf}

pub upload_row : (name id : List ℕ) → (name ++ (codes "/blobs/uploads/" ++ id)) ++ crlf ≡ name ++ (codes "/blobs/uploads/" ++ (id ++ crlf))
upload_row name id = append_assoc name (codes "/blobs/uploads/" ++ id) crlf

pub content_row : (name folder digest : List ℕ) → (name ++ (codes "/" ++ (folder ++ (codes "/" ++ digest)))) ++ crlf ≡ name ++ (codes "/" ++ (folder ++ (codes "/" ++ (digest ++ crlf))))
content_row name folder digest =
    append_assoc name (codes "/" ++ (folder ++ (codes "/" ++ digest))) crlf
    ∙ ap (λ t. name ++ (codes "/" ++ t)) (append_assoc folder (codes "/" ++ digest) crlf)

-- the last of some tags is the one at the last place
pub last_at : (xs : List (List ℕ)) (after : Option (List ℕ)) (x : List ℕ) → slice_get xs (length xs - 1) ≡ Some x → last_of after xs ≡ Some x
last_at [] after x h = cc h
last_at (y ∷ []) after x h = h
last_at (y ∷ z ∷ zs) after x h =
    let next : length (y ∷ z ∷ zs) - 1 ≡ suc (length (z ∷ zs) - 1) = omega arith in
    last_at (z ∷ zs) (Some y) x (rw next at h)

pub link_row : (name digits last : List ℕ) → (name ++ (codes "/tags/list?n=" ++ (digits ++ (codes "&last=" ++ (last ++ codes ">; rel=\"next\""))))) ++ crlf ≡ name ++ (codes "/tags/list?n=" ++ (digits ++ (codes "&last=" ++ (last ++ (codes ">; rel=\"next\"" ++ crlf)))))
link_row name digits last =
    append_assoc name (codes "/tags/list?n=" ++ (digits ++ (codes "&last=" ++ (last ++ codes ">; rel=\"next\"")))) crlf
    ∙ ap (λ t. name ++ (codes "/tags/list?n=" ++ t)) (append_assoc digits (codes "&last=" ++ (last ++ codes ">; rel=\"next\"")) crlf)
    ∙ ap (λ t. name ++ (codes "/tags/list?n=" ++ (digits ++ (codes "&last=" ++ t)))) (append_assoc last (codes ">; rel=\"next\"") crlf)

in_a_row : (o a b c d e f g h i : List ℕ) → ((((((((o ++ a) ++ b) ++ c) ++ d) ++ e) ++ f) ++ g) ++ h) ++ i ≡ o ++ (a ++ (b ++ (c ++ (d ++ (e ++ (f ++ (g ++ (h ++ i))))))))
in_a_row o a b c d e f g h i = simp append_assoc refl

-- nine texts that were put one behind the other
pub nine_pushed : (o a b c d e f g h i : List ℕ) {p q r s t u v w x : List ℕ} → p ≡ o ++ a → q ≡ p ++ b → r ≡ q ++ c → s ≡ r ++ d → t ≡ s ++ e → u ≡ t ++ f → v ≡ u ++ g → w ≡ v ++ h → x ≡ w ++ i
    → x ≡ o ++ (a ++ (b ++ (c ++ (d ++ (e ++ (f ++ (g ++ (h ++ i))))))))
nine_pushed o a b c d e f g h i f1 f2 f3 f4 f5 f6 f7 f8 f9 = rw (f9, f8, f7, f6, f5, f4, f3, f2, f1) (in_a_row o a b c d e f g h i)
