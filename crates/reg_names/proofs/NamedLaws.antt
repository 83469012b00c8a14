-- Lists in order are told by what is in them.
use Rattle.std.proofs.Common.{◌≡◌, ℕ, Bool, true, false, cond, List, [], ◌∷◌, map, Option, Some, None, nat_eq, refl, sym, ap, subst, ◌∙◌}
use Rattle.std.specs.Prelude.{◌||◌}
use Rattle.std.specs.List.{AllByRecursion}
use Rattle.std.specs.declared.cmp.Ordering.{Ordering}
use Rattle.std.specs.Ordering.{nat_cmp, is_eq, ordering_reverse}
use Rattle.std.specs.declared.cmp.Ordering.TheVariants.{Less, Equal, Greater}
use Rattle.std.specs.Cmp.Lexicographic.{pointwise, slice_cmp, same_text, texts_ties, nat_list_eq_equiv, nat_list_cmp_total}
use Rattle.std.proofs.lemmas.Map.Keys.{sorted_head, sorted_tail}
use Rattle.reg_names.specs.declared.named.Named.{Named}
use Rattle.reg_names.specs.Named.{AscendStrictly, digests_of, free_in, has_digest}

abbrev order : List ℕ → List ℕ → Ordering
order = slice_cmp nat_cmp

-- all of them are above k
abbrev Above : List ℕ → List (List ℕ) → Type 0
Above k ds = AllByRecursion (λ d. order k d ≡ Less) ds

above_more : (k l : List ℕ) (ds : List (List ℕ)) → order k l ≡ Less → Above l ds → Above k ds
above_more k l [] less all = tt
above_more k l (d ∷ ds) less all = (nat_list_cmp_total.trans k l d less all.0, above_more k l ds less all.1)

absent : (k : List ℕ) (ns : List Named) → Above k (digests_of ns) → free_in k ns ≡ None
absent k [] all = refl
absent k (n ∷ ns) all =
    ap (λ t. cond t (Some n.free) (free_in k ns)) (texts_ties k n.digest ∙ ap is_eq all.0) ∙ absent k ns all.1

first_of : (x : Named) (xs : List Named) → free_in x.digest (x ∷ xs) ≡ Some x.free
first_of x xs = ap (λ t. cond t (Some x.free) (free_in x.digest xs)) (nat_list_eq_equiv.refl x.digest)

none_below : (x y : Named) (ys : List Named) → order x.digest y.digest ≡ Less → AscendStrictly (digests_of (y ∷ ys)) → free_in x.digest (y ∷ ys) ≡ None
none_below x y ys less up =
    absent x.digest (y ∷ ys) (less, above_more x.digest y.digest (digests_of ys) less (sorted_head order y.digest (digests_of ys) up))

not_some : {X : Type 0} (o : Option Bool) (b : Bool) → o ≡ None → o ≡ Some b → X
not_some o b none some = absurd (cc (sym none ∙ some))

same_entry : (x y : Named) → x.digest ≡ y.digest → x.free ≡ y.free → x ≡ y
same_entry x y d f = λ i. record { digest = d i; free = f i }

some_is : (b c : Bool) → Some b ≡ Some c → b ≡ c
some_is b c e = cc e

heads_by : (o : Ordering) (x y : Named) (xs ys : List Named) → order x.digest y.digest ≡ o → AscendStrictly (digests_of (x ∷ xs)) → AscendStrictly (digests_of (y ∷ ys)) → ((q : List ℕ) → free_in q (x ∷ xs) ≡ free_in q (y ∷ ys)) → x ≡ y
heads_by Less x y xs ys is up upper same =
    not_some (free_in x.digest (y ∷ ys)) x.free (none_below x y ys is upper) (sym (same x.digest) ∙ first_of x xs)
heads_by Greater x y xs ys is up upper same =
    not_some (free_in y.digest (x ∷ xs)) y.free (none_below y x xs (nat_list_cmp_total.antisymm y.digest x.digest ∙ ap ordering_reverse is) up) (same y.digest ∙ first_of y ys)
heads_by Equal x y xs ys is up upper same =
    let one = same_text x.digest y.digest (sym (texts_ties x.digest y.digest ∙ ap is_eq is)) in
    same_entry x y one (some_is x.free y.free (sym (first_of x xs) ∙ same x.digest ∙ ap (λ q. free_in q (y ∷ ys)) one ∙ first_of y ys))

rest_by : (t : Bool) (x : Named) (xs ys : List Named) (q : List ℕ) → pointwise nat_eq q x.digest ≡ t → Above x.digest (digests_of xs) → Above x.digest (digests_of ys) → cond t (Some x.free) (free_in q xs) ≡ cond t (Some x.free) (free_in q ys) → free_in q xs ≡ free_in q ys
rest_by true x xs ys q is up upper same =
    let here = same_text q x.digest (sym is) in
    ap (λ k. free_in k xs) here ∙ absent x.digest xs up ∙ sym (absent x.digest ys upper) ∙ sym (ap (λ k. free_in k ys) here)
rest_by false x xs ys q is up upper same = same

rests : (x y : Named) (xs ys : List Named) → x ≡ y → AscendStrictly (digests_of (x ∷ xs)) → AscendStrictly (digests_of (y ∷ ys)) → ((q : List ℕ) → free_in q (x ∷ xs) ≡ free_in q (y ∷ ys)) → (q : List ℕ) → free_in q xs ≡ free_in q ys
rests x y xs ys one up upper same q =
    let upper = subst (λ n. AscendStrictly (digests_of (n ∷ ys))) (sym one) upper in
    let same = subst (λ n. free_in q (x ∷ xs) ≡ free_in q (n ∷ ys)) (sym one) (same q) in
    rest_by (pointwise nat_eq q x.digest) x xs ys q refl (sorted_head order x.digest (digests_of xs) up) (sorted_head order x.digest (digests_of ys) upper) same

-- two lists in order that name the same digests, each alike free, are one
pub same_named : (xs ys : List Named) → AscendStrictly (digests_of xs) → AscendStrictly (digests_of ys) → ((q : List ℕ) → free_in q xs ≡ free_in q ys) → xs ≡ ys
same_named [] [] up upper same = refl
same_named [] (y ∷ ys) up upper same = not_some None y.free refl (same y.digest ∙ first_of y ys)
same_named (x ∷ xs) [] up upper same = not_some None x.free refl (sym (same x.digest) ∙ first_of x xs)
same_named (x ∷ xs) (y ∷ ys) up upper same =
    let one = heads_by (order x.digest y.digest) x y xs ys refl up upper same in
    let rest = same_named xs ys (sorted_tail order x.digest (digests_of xs) up) (sorted_tail order y.digest (digests_of ys) upper) (rests x y xs ys one up upper same) in
    λ i. one i ∷ rest i

-- ---- lists of digests

abbrev marked : List (List ℕ) → List Named
marked ds = map (λ d. record { digest = d; free = true }) ds

digests_of-marked : (ds : List (List ℕ)) → digests_of (marked ds) ≡ ds
digests_of-marked [] = refl
digests_of-marked (d ∷ ds) = ap (λ rest. d ∷ rest) (digests_of-marked ds)

marked_by : (t u : Bool) → cond t (Some true) (cond u (Some true) None) ≡ cond (t || u) (Some true) None
marked_by true u = refl
marked_by false u = refl

free_in-marked : (q : List ℕ) (ds : List (List ℕ)) → free_in q (marked ds) ≡ cond (has_digest q ds) (Some true) None
free_in-marked q [] = refl
free_in-marked q (d ∷ ds) =
    ap (λ o. cond (pointwise nat_eq q d) (Some true) o) (free_in-marked q ds) ∙ marked_by (pointwise nat_eq q d) (has_digest q ds)

-- two lists in order that have the same digests are one
pub same_digests : (ds es : List (List ℕ)) → AscendStrictly ds → AscendStrictly es → ((q : List ℕ) → has_digest q ds ≡ has_digest q es) → ds ≡ es
same_digests ds es up upper same =
    let one = same_named (marked ds) (marked es) (subst AscendStrictly (sym (digests_of-marked ds)) up) (subst AscendStrictly (sym (digests_of-marked es)) upper) (λ q. free_in-marked q ds ∙ ap (λ t. cond t (Some true) None) (same q) ∙ sym (free_in-marked q es)) in
    sym (digests_of-marked ds) ∙ ap digests_of one ∙ digests_of-marked es
