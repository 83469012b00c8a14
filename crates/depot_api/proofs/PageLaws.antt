-- Pages of paths.
use Rattle.std.proofs.Common.{◌≡◌, ℕ, zero, suc, ◌-◌, ◌≤◌, false, List, [], ◌∷◌, ◌++◌, take, length, is_some, refl, ap, sym, subst, ◌∙◌, Option, Some, None, Ordering, Less, Equal, Greater, true≢false, is_lt, is_gt, is_eq, arith, ⊎_elim}
use Rattle.std.specs.Prelude.{IsTrue, IsSome}
use Rattle.std.specs.List.{AllByRecursion, take_while, slice_get}
use Rattle.std.specs.Option.{option_or}
use Rattle.std.specs.List.Sorted.{IsStrictlySortedBy}
use Rattle.std.specs.Ordering.{ordering_reverse}
use Rattle.std.specs.Map.{keys_of, lookup}
use Rattle.std.specs.BTreeMap.{is_at}
use Rattle.std.proofs.lemmas.Cmp.{tied_itself}
use Rattle.std.proofs.lemmas.Bool.{cases_Bool, cond-true, cond-false}
use Rattle.std.proofs.lemmas.List.Sums.{take_while-cons}
use Rattle.std.proofs.lemmas.Map.{lookup-none}
use Rattle.std.proofs.lemmas.Map.Entries.{lookup_head, lookup_tail, none_below_head}
use Rattle.std.proofs.lemmas.Map.Keys.{sorted_head, sorted_tail}
use Rattle.depot_api.specs.Paths.{path_cmp, is_below, begins_with}
use Rattle.depot_api.specs.Files.{Files}
use Rattle.depot_api.specs.Pages.{is_after, IsAsked, IsNextPath, IsPage, ArePathsAbove}
use Rattle.depot_api.proofs.OrderLaws.{path_total, less_from, is_below-trans, front_below, path_same}

abbrev Path : Type 0
Path = List (List ℕ)

-- above a path that is above another
pub is_after-trans : (after : Option Path) (p q : Path) → IsTrue (is_after after p) → IsTrue (is_below p q) → IsTrue (is_after after q)
is_after-trans None p q h g = refl
is_after-trans (Some a) p q h g = is_below-trans a p q h g

-- the entries that are left show every file that is asked for, in the order of their paths
pub record Shown (files : Files) (under : Path) (after : Option Path) (left : List (Path × List ℕ)) : Type 0 where
  pub order : IsStrictlySortedBy path_cmp (keys_of left)
  pub above : AllByRecursion (λ k. IsTrue (is_after after k)) (keys_of left)
  pub from : AllByRecursion (λ k. is_gt (path_cmp under k) ≡ false) (keys_of left)
  pub found : (q : Path) → IsAsked under after q → files q ≡ lookup (is_at (path_cmp q)) left

all_less : (e : Path) (ks : List Path) → AllByRecursion (λ k. path_cmp e k ≡ Less) ks → AllByRecursion (λ k. IsTrue (is_below e k)) ks
all_less e [] all = tt
all_less e (k ∷ ks) all = (ap is_lt all.0, all_less e ks all.1)

not_at : (p q : Path) → IsTrue (is_below p q) → is_eq (path_cmp q p) ≡ false
not_at p q h =
    ap is_eq (path_total.antisymm q p ∙ ap ordering_reverse (less_from (path_cmp p q) h))

module _ (files : Files) (under : Path) where
  -- what is left behind the first entry
  shown_rest : (after : Option Path) (e : Path × List ℕ) (es : List (Path × List ℕ)) → Shown files under after (e ∷ es) → Shown files under (Some e.0) es
  shown_rest after e es s = record {
    order = sorted_tail path_cmp e.0 (keys_of es) s.order;
    above = all_less e.0 (keys_of es) (sorted_head path_cmp e.0 (keys_of es) s.order);
    from = s.from.1;
    found = λ q asked.
        s.found q (is_after-trans after e.0 q s.above.0 asked.0, asked.1)
        ∙ lookup_tail (is_at (path_cmp q)) e es (not_at e.0 q asked.0);
  }

  -- no file that is asked for stands below the first entry
  none_below : (after : Option Path) (e : Path × List ℕ) (es : List (Path × List ℕ)) → Shown files under after (e ∷ es) → (q : Path) → IsAsked under after q → path_cmp q e.0 ≡ Less → files q ≡ None
  none_below after e es s q asked less =
      s.found q asked ∙ lookup-none (is_at (path_cmp q)) (e ∷ es) (none_below_head path_total q e es s.order less)

  -- the paths in front that begin with `under` are a page
  pub IsPage-from_shown : (n : ℕ) (after : Option Path) (left : List (Path × List ℕ)) → Shown files under after left → IsPage files under after n (take n (take_while (begins_with under) (keys_of left)))
  IsPage-from_shown zero after left s = refl
  IsPage-from_shown (suc n) after [] s = λ q asked. s.found q asked
  IsPage-from_shown (suc n) after (e ∷ es) s =
      ⊎_elim
      (λ y.
      let asked : IsAsked under after e.0 = (s.above.0, y) in
      let at : files e.0 ≡ Some e.1 = s.found e.0 asked ∙ lookup_head (is_at (path_cmp e.0)) e es (ap is_eq (tied_itself path_total e.0)) in
      let next : IsNextPath files under after (Some e.0) = (asked, ap is_some at, λ q a b. none_below after e es s q a (less_from (path_cmp q e.0) b)) in
      subst (IsPage files under after (suc n))
      (sym (ap (take (suc n)) (take_while-cons (begins_with under) e.0 (keys_of es) ∙ cond-true (begins_with under e.0) _ _ y)))
      (next, IsPage-from_shown n (Some e.0) es (shown_rest after e es s)))
      (λ no.
      subst (IsPage files under after (suc n))
      (sym (ap (take (suc n)) (take_while-cons (begins_with under) e.0 (keys_of es) ∙ cond-false (begins_with under e.0) _ _ no)))
      (λ q asked. none_below after e es s q asked (front_below under q e.0 asked.1 no s.from.0)))
      (cases_Bool (begins_with under e.0))

  -- a page has no more paths than were asked for
  pub length-page : (n : ℕ) (after : Option Path) (paths : List Path) → IsPage files under after n paths → length paths ≤ n
  length-page zero after paths page = omega (arith, ap length page)
  length-page (suc n) after [] page = omega arith
  length-page (suc n) after (p ∷ ps) page = omega (arith, length-page n (Some p) ps page.1)

  -- the paths of a page ascend
  pub ArePathsAbove-from_page : (n : ℕ) (after : Option Path) (paths : List Path) → IsPage files under after n paths → ArePathsAbove under after paths
  ArePathsAbove-from_page zero after paths page = subst (ArePathsAbove under after) (sym page) tt
  ArePathsAbove-from_page (suc n) after [] page = tt
  ArePathsAbove-from_page (suc n) after (p ∷ ps) page = (page.0.0, ArePathsAbove-from_page n (Some p) ps page.1)

  -- two least paths are one
  one_next : (after : Option Path) (p q : Path) → IsNextPath files under after (Some p) → IsNextPath files under after (Some q) → p ≡ q
  one_next after p q np nq = by (path_cmp p q) refl
    where
      gone : (r : Path) → IsSome (files r) → files r ≡ None → ⊥
      gone r some none = true≢false (sym some ∙ ap is_some none)

      by : (o : Ordering) → o ≡ path_cmp p q → p ≡ q
      by Less is = absurd (gone p np.1 (nq.2 p np.0 (ap is_lt (sym is))))
      by Equal is = path_same p q (sym is)
      by Greater is = absurd (gone q nq.1 (np.2 q nq.0 (ap is_lt (path_total.antisymm q p ∙ ap ordering_reverse (sym is)))))

  -- a question has one page
  pub pages_agree : (n : ℕ) (after : Option Path) (one two : List Path) → IsPage files under after n one → IsPage files under after n two → one ≡ two
  pages_agree zero after one two p q = p ∙ sym q
  pages_agree (suc n) after [] [] p q = refl
  pages_agree (suc n) after [] (y ∷ ys) p q = absurd (true≢false (sym q.0.1 ∙ ap is_some (p y q.0.0)))
  pages_agree (suc n) after (x ∷ xs) [] p q = absurd (true≢false (sym p.0.1 ∙ ap is_some (q x p.0.0)))
  pages_agree (suc n) after (x ∷ xs) (y ∷ ys) p q =
      let same = one_next after x y p.0 q.0 in
      ap (λ z. z ∷ xs) same ∙ ap (λ zs. y ∷ zs) (pages_agree n (Some y) xs ys (subst (λ z. IsPage files under (Some z) n xs) same p.1) q.1)

-- the last path of a list, and where it is empty the one before it
abbrev last_or : Option Path → List Path → Option Path
last_or before [] = before
last_or before (p ∷ ps) = last_or (Some p) ps

last_or-some : (p : Path) (ps : List Path) (before : Option Path) → option_or (last_or (Some p) ps) before ≡ last_or (Some p) ps
last_or-some p [] before = refl
last_or-some p (y ∷ ys) before = last_or-some y ys before

last_or-at_end : (p : Path) (ps : List Path) → last_or (Some p) ps ≡ slice_get (p ∷ ps) (length ps)
last_or-at_end p [] = refl
last_or-at_end p (y ∷ ys) = last_or-at_end y ys

last_or-last : (before : Option Path) (ps : List Path) → option_or (slice_get ps (length ps - 1)) before ≡ last_or before ps
last_or-last before [] = refl
last_or-last before (p ∷ ps) =
    let place : length (p ∷ ps) - 1 ≡ length ps = omega arith in
    ap (λ k. option_or (slice_get (p ∷ ps) k) before) place
    ∙ ap (λ o. option_or o before) (sym (last_or-at_end p ps))
    ∙ last_or-some p ps before

-- a path that is asked for behind the last one, which `last().or(after)` gives, goes to the end
pub ArePathsAbove-push : (under : Path) (after : Option Path) (paths : List Path) (q : Path) → ArePathsAbove under after paths → IsAsked under (option_or (slice_get paths (length paths - 1)) after) q → ArePathsAbove under after (paths ++ q ∷ [])
ArePathsAbove-push under after paths q all asked =
    push after paths all (subst (λ o. IsAsked under o q) (last_or-last after paths) asked)
  where
    push : (before : Option Path) (ps : List Path) → ArePathsAbove under before ps → IsAsked under (last_or before ps) q → ArePathsAbove under before (ps ++ q ∷ [])
    push before [] all asked = (asked, tt)
    push before (p ∷ ps) all asked = (all.0, push (Some p) ps all.1 asked)
