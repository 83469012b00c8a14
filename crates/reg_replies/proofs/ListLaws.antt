-- Lists of texts with something between them, one text after another.
use Rattle.std.proofs.Common.{◌≡◌, ℕ, zero, suc, ◌+◌, List, [], ◌∷◌, ◌++◌, ◌<◌, ◌≤◌, length, take, get_or, refl, sym, ap, ◌∙◌, append_assoc, append-nil, arith}
use Rattle.std.specs.List.{flat_map, join_by}
use Rattle.std.proofs.Math.Seq.{take-suc}
use Rattle.std.proofs.lemmas.List.{take_all}
use Rattle.std.proofs.lemmas.List.Concat.{flat_map-append}

-- an item that is there does not depend on what would stand in its place
pub own_item : {A : Type 0} (xs : List A) (i : ℕ) (d : A) → i < length xs → get_or xs i d ≡ get_or xs i (get_or xs i d)
own_item [] i d h = absurd (omega arith)
own_item (x ∷ xs) zero d h = refl
own_item (x ∷ xs) (suc i) d h = own_item xs i d (omega arith)

module _ {A : Type 0} (written : A → List ℕ) (between : List ℕ) where
  -- what stands between texts and the next one
  abbrev pub between_behind : List A → List ℕ
  between_behind [] = []
  between_behind (x ∷ xs) = between

  abbrev later : A → List ℕ
  later x = between ++ written x

  -- one text more
  joined-push : (xs : List A) (x : A) → join_by written between (xs ++ x ∷ []) ≡ join_by written between xs ++ (between_behind xs ++ written x)
  joined-push [] x = append-nil (written x)
  joined-push (y ∷ ys) x =
      let more = flat_map-append later ys (x ∷ []) ∙ ap (λ t. flat_map later ys ++ t) (append-nil (later x)) in
      ap (λ t. written y ++ t) more ∙ sym (append_assoc (written y) (flat_map later ys) (later x))

  between-push : (xs : List A) (x : A) → between_behind (xs ++ x ∷ []) ≡ between
  between-push [] x = refl
  between-push (y ∷ ys) x = refl

  one_more : (xs : List A) (i : ℕ) (x : A) → i < length xs → x ≡ get_or xs i x → take (i + 1) xs ≡ take i xs ++ x ∷ []
  one_more xs i x within at =
      let next : i + 1 ≡ suc i = omega arith in
      ap (λ n. take n xs) next ∙ take-suc xs i x within ∙ ap (λ t. take i xs ++ t ∷ []) (sym at)

  -- the texts that were passed, after one more
  pub push_passed : (start body mid new : List ℕ) (xs : List A) (i : ℕ) (x : A) (comma : List ℕ) → i < length xs → x ≡ get_or xs i x → body ≡ start ++ join_by written between (take i xs) → comma ≡ between_behind (take i xs) → mid ≡ body ++ comma → new ≡ mid ++ written x
      → new ≡ start ++ join_by written between (take (i + 1) xs)
  push_passed start body mid new xs i x comma within at is stands first second =
      second ∙ ap (λ t. t ++ written x) first ∙ append_assoc body comma (written x)
      ∙ rw (is, stands) (append_assoc start (join_by written between (take i xs)) (between_behind (take i xs) ++ written x))
      ∙ ap (λ t. start ++ t) (sym (joined-push (take i xs) x))
      ∙ ap (λ t. start ++ join_by written between t) (sym (one_more xs i x within at))

  pub between_passed : (xs : List A) (i : ℕ) (x : A) → i < length xs → x ≡ get_or xs i x → between ≡ between_behind (take (i + 1) xs)
  between_passed xs i x within at = sym (ap between_behind (one_more xs i x within at) ∙ between-push (take i xs) x)

  pub all_passed : (start body : List ℕ) (xs : List A) (i : ℕ) → body ≡ start ++ join_by written between (take i xs) → length xs ≤ i → body ≡ start ++ join_by written between xs
  all_passed start body xs i is all = is ∙ ap (λ t. start ++ join_by written between t) (take_all i xs all)
