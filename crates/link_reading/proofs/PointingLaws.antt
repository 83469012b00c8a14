-- The tags that point to one digest: what a walk through the links of a repository's tags tells of them.
use Rattle.std.proofs.Common.{◌≡◌, ℕ, Bool, true, false, cond, List, [], ◌∷◌, ◌++◌, nat_eq, Option, Some, None, Result, Ok, Err, refl, sym, ap, subst, ◌∙◌, true≢false}
use Rattle.std.specs.Prelude.{◌||◌, ◌&&◌, IfOk, IsTrue, IsSome, is_some, option_and_then}
use Rattle.std.specs.Option.{option_map_or}
use Rattle.std.specs.Bool.{then_some}
use Rattle.std.specs.List.{list_any, AllByRecursion}
use Rattle.std.specs.List.Sorted.{IsStrictlySortedBy}
use Rattle.std.specs.declared.cmp.Ordering.{Ordering}
use Rattle.std.specs.declared.cmp.Ordering.TheVariants.{Less, Equal, Greater}
use Rattle.std.specs.Ordering.{nat_cmp, is_lt, ordering_reverse}
use Rattle.std.specs.Cmp.Lexicographic.{slice_cmp, pointwise, same_text, nat_list_eq_equiv}
use Rattle.std.proofs.lemmas.Bool.{and_parts}
use Rattle.std.proofs.lemmas.Cmp.{tied_itself}
use Rattle.std.proofs.lemmas.List.Folds.{list_any-append}
use Rattle.reg_names.specs.Names.{IsName, is_name}
use Rattle.reg_names.specs.Tags.{IsTag, is_tag}
use Rattle.reg_names.specs.Digests.{digest_named}
use Rattle.reg_names.specs.Reading.{ReadsBack}
use Rattle.reg_names.proofs.DigestTexts.{digest_named-text}
use Rattle.depot_api.specs.Files.{Files}
use Rattle.depot_api.specs.Paths.{path_cmp, is_below, begins_with}
use Rattle.depot_api.specs.Pages.{is_after}
use Rattle.depot_api.specs.Holdings.{Holding}
use Rattle.depot_api.proofs.OrderLaws.{path_total, path_same, less_from, is_below-trans}
use Rattle.link_paths.specs.Places.{tag_path}
use Rattle.link_paths.specs.Folders.{tags_folder}
use Rattle.link_paths.proofs.PathOrder.{tags_in_order}
use Rattle.reg_entries.specs.Listing.{AreTagsTo}
use Rattle.link_reading.specs.Meaning.{Means, links_to, manifest_at, only_manifest, target_at}
use Rattle.link_reading.specs.InnerWalks.{LiesAt, IsFirst}
use Rattle.link_reading.specs.InnerPointing.{is_linked_to, pointing_quest, AreLinkedTo}
use Rattle.link_reading.proofs.MeaningLaws.{links_to-is, tag_there}
use Rattle.link_reading.proofs.LinkLaws.{unless, tag_alone, tag_path_begins, target_of}

abbrev Path : Type 0
Path = List (List ℕ)

abbrev order : List ℕ → List ℕ → Ordering
order = slice_cmp nat_cmp

-- ---- links to the digest

module _ (files : Files) (name digest : List ℕ) where
  abbrev linked : List ℕ → Bool
  linked = is_linked_to files name digest

  record HasLink (tag : List ℕ) : Type 0 where
    pub named : IsName name
    pub tagged : IsTag tag
    pub holds : links_to (files (tag_path name tag)) digest ≡ true

  link_of : (tag : List ℕ) → linked tag ≡ true → HasLink tag
  link_of tag h =
      let one = and_parts (is_name name) _ h in
      let two = and_parts (is_tag tag) _ one.1 in
      record { named = one.0; tagged = two.0; holds = two.1 }

  link_there : (tag : List ℕ) → linked tag ≡ true → IsSome (files (tag_path name tag))
  link_there tag h = ap is_some (links_to-is (files (tag_path name tag)) digest (link_of tag h).holds).1

  -- the link of a tag holds the text, where the file at its path does
  linked_by : (path : Path) (tag : List ℕ) → IsName name → ReadsBack IsTag (tag_path name) path (Some tag) → linked tag ≡ links_to (files path) digest
  linked_by path tag n read =
      ap (λ b. b && (is_tag tag && links_to (files (tag_path name tag)) digest)) n
      ∙ ap (λ b. b && links_to (files (tag_path name tag)) digest) read.0
      ∙ ap (λ p. links_to (files p) digest) read.1

  -- ---- one look

  pub no_link_lies : (path : Path) → ReadsBack IsTag (tag_path name) path None → LiesAt (pointing_quest name digest) files path None
  no_link_lies path read = λ v at. unless (linked v) (λ t. read v (link_of v t).tagged at)

  pub link_lies : (path : Path) (tag : List ℕ) (b : Bool) → IsName name → ReadsBack IsTag (tag_path name) path (Some tag) → b ≡ links_to (files path) digest → LiesAt (pointing_quest name digest) files path (then_some b tag)
  link_lies path tag true n read e = (read.1, linked_by path tag n read ∙ sym e)
  link_lies path tag false n read e = λ v at.
      unless (linked v) (λ t.
      let same = tag_alone name v tag n (link_of v t).tagged read.0 (at ∙ sym read.1) in
      true≢false (sym t ∙ ap linked same ∙ linked_by path tag n read ∙ sym e))

-- ---- orders

by_order : {X : Type 0} (p q : Path) → (is_below p q ≡ true → X) → (p ≡ q → X) → (is_below q p ≡ true → X) → X
by_order {X} p q below same above = by (path_cmp p q) refl
  where
    by : (o : Ordering) → path_cmp p q ≡ o → X
    by Less e = below (ap is_lt e)
    by Equal e = same (path_same p q e)
    by Greater e = above (ap is_lt (path_total.antisymm q p ∙ ap ordering_reverse e))

not_above : (p q : Path) → is_below p q ≡ true → is_below q p ≡ false
not_above p q h = ap is_lt (path_total.antisymm q p ∙ ap ordering_reverse (less_from (path_cmp p q) h))

not_itself : (p : Path) → is_below p p ≡ false
not_itself p = ap is_lt (tied_itself path_total p)

-- what a walk has passed is below what it has not
passed_below : (after : Option Path) (p q : Path) → is_after after p ≡ false → is_after after q ≡ true → is_below p q ≡ true
passed_below None p q passed ahead = absurd (true≢false passed)
passed_below (Some a) p q passed ahead =
    by_order p q
    (λ below. below)
    (λ same. absurd (true≢false (sym ahead ∙ ap (is_below a) (sym same) ∙ passed)))
    (λ above. absurd (true≢false (sym (is_below-trans a q p ahead above) ∙ passed)))

-- ---- lists

all_pushed : (P : List ℕ → Type 0) (ts : List (List ℕ)) (u : List ℕ) → AllByRecursion P ts → P u → AllByRecursion P (ts ++ u ∷ [])
all_pushed P [] u all h = (h, tt)
all_pushed P (t ∷ ts) u all h = (all.0, all_pushed P ts u all.1 h)

all_mapped : (P Q : List ℕ → Type 0) (ts : List (List ℕ)) → ((t : List ℕ) → P t → Q t) → AllByRecursion P ts → AllByRecursion Q ts
all_mapped P Q [] f all = tt
all_mapped P Q (t ∷ ts) f all = (f t all.0, all_mapped P Q ts f all.1)

sorted_pushed : (ts : List (List ℕ)) (u : List ℕ) → IsStrictlySortedBy order ts → AllByRecursion (λ t. order t u ≡ Less) ts → IsStrictlySortedBy order (ts ++ u ∷ [])
unfolding IsStrictlySortedBy
sorted_pushed [] u up below = (tt, tt)
sorted_pushed (t ∷ ts) u up below = (all_pushed (λ x. order t x ≡ Less) ts u up.0 below.0, sorted_pushed ts u up.1 below.1)

none_sorted : IsStrictlySortedBy order []
unfolding IsStrictlySortedBy
none_sorted = tt

of_member : (P : List ℕ → Type 0) (ts : List (List ℕ)) (t : List ℕ) → AllByRecursion P ts → list_any (pointwise nat_eq t) ts ≡ true → P t
of_member P [] t all h = absurd (true≢false (sym h))
of_member P (u ∷ us) t all h = by (pointwise nat_eq t u) refl h (of_member P us t all.1)
  where
    by : (b : Bool) → pointwise nat_eq t u ≡ b → (b || list_any (pointwise nat_eq t) us) ≡ true → (list_any (pointwise nat_eq t) us ≡ true → P t) → P t
    by true e k later = subst P (sym (same_text t u (sym e))) all.0
    by false e k later = later k

member_before : (ts : List (List ℕ)) (t u : List ℕ) → list_any (pointwise nat_eq t) ts ≡ true → list_any (pointwise nat_eq t) (ts ++ u ∷ []) ≡ true
member_before ts t u h =
    list_any-append (pointwise nat_eq t) ts (u ∷ []) ∙ ap (λ b. b || list_any (pointwise nat_eq t) (u ∷ [])) h

member_last : (ts : List (List ℕ)) (t u : List ℕ) → t ≡ u → list_any (pointwise nat_eq t) (ts ++ u ∷ []) ≡ true
member_last ts t u same =
    list_any-append (pointwise nat_eq t) ts (u ∷ []) ∙ ends (list_any (pointwise nat_eq t) ts) (pointwise nat_eq t u) (ap (pointwise nat_eq t) (sym same) ∙ nat_list_eq_equiv.refl t)
  where
    ends : (b c : Bool) → c ≡ true → (b || (c || false)) ≡ true
    ends true c e = refl
    ends false c e = ap (λ x. x || false) e

-- ---- a walk

-- the tag's link holds the text, and a walk that stands behind `after` has passed it
abbrev IsPassed : Files → List ℕ → List ℕ → Option Path → List ℕ → Type 0
IsPassed files name digest after t =
    (is_linked_to files name digest t ≡ true) × (is_after after (tag_path name t) ≡ false)

-- the tags that were found are those, in order
pub record HasPointed (files : Files) (name digest : List ℕ) (after : Option Path) (found : List (List ℕ)) : Type 0 where
  pub in_order : IsStrictlySortedBy order found
  pub passed : AllByRecursion (IsPassed files name digest after) found
  pub each : (t : List ℕ) → is_linked_to files name digest t ≡ true → is_after after (tag_path name t) ≡ false → list_any (pointwise nat_eq t) found ≡ true

module _ (files : Files) (name digest : List ℕ) where
  pub points_first : (after : Option Path) (found : List (List ℕ)) → after ≡ None → found ≡ [] → HasPointed files name digest after found
  points_first after found first none =
      subst (λ a. HasPointed files name digest a found) (sym first)
      (subst (HasPointed files name digest None) (sym none) (record { in_order = none_sorted; passed = tt; each = λ t h passed. absurd (true≢false passed) }))

  module _ (after : Option Path) (found : List (List ℕ)) (s : HasPointed files name digest after found) where
    by_after : {X : Type 0} (t : List ℕ) → (is_after after (tag_path name t) ≡ true → X) → (is_after after (tag_path name t) ≡ false → X) → X
    by_after {X} t ahead passed = by (is_after after (tag_path name t)) refl
      where
        by : (b : Bool) → is_after after (tag_path name t) ≡ b → X
        by true e = ahead e
        by false e = passed e

    begins : (t : List ℕ) → is_linked_to files name digest t ≡ true → IsTrue (begins_with (tags_folder name) (tag_path name t))
    begins t h = tag_path_begins name t (link_of files name digest t h).named (link_of files name digest t h).tagged

    -- the walk has come to its end
    pub points_all : IsFirst (pointing_quest name digest) files (tags_folder name) after None → AreLinkedTo files name digest found
    points_all ended = record {
      in_order = s.in_order;
      each = λ t. (
        λ m. (of_member (IsPassed files name digest after) found t s.passed m).0,
        λ h. by_after t (λ ahead. absurd (true≢false (sym h ∙ ended t (ahead, begins t h) tt (link_there files name digest t h)))) (s.each t h),
      );
    }

    -- it has come to one more
    module _ (u : List ℕ) (first : IsFirst (pointing_quest name digest) files (tags_folder name) after (Some u)) where
      own : HasLink files name digest u
      own = link_of files name digest u first.1

      -- what was found before lies below it
      below : (t : List ℕ) → IsPassed files name digest after t → is_below (tag_path name t) (tag_path name u) ≡ true
      below t h = passed_below after (tag_path name t) (tag_path name u) h.1 first.0.0

      lesser : (t : List ℕ) → IsPassed files name digest after t → order t u ≡ Less
      lesser t h =
          less_from (order t u) (sym (tags_in_order name t u own.named (link_of files name digest t h.0).tagged own.tagged) ∙ below t h)

      pub points_more : HasPointed files name digest (Some (tag_path name u)) (found ++ u ∷ [])
      points_more =
          let was = IsPassed files name digest after in
          let is = IsPassed files name digest (Some (tag_path name u)) in
          record {
            in_order = sorted_pushed found u s.in_order (all_mapped was (λ t. order t u ≡ Less) found lesser s.passed);
            passed = all_pushed is found u (all_mapped was is found (λ t h. (h.0, not_above (tag_path name t) (tag_path name u) (below t h))) s.passed) (first.1, not_itself (tag_path name u));
            each = λ t h passed.
                by_order (tag_path name t) (tag_path name u)
                (λ less. member_before found t u (by_after t (λ ahead. absurd (true≢false (sym h ∙ first.2 t (ahead, begins t h) less (link_there files name digest t h)))) (s.each t h)))
                (λ same. member_last found t u (tag_alone name t u own.named (link_of files name digest t h).tagged own.tagged same))
                (λ greater. absurd (true≢false (sym greater ∙ passed)));
          }

  -- ---- what tags mean

  only : (d : List ℕ) → only_manifest files name d ≡ Some digest → d ≡ digest
  only d h = by (is_some (manifest_at files name d)) h
    where
      by : (b : Bool) → cond b (Some d) None ≡ Some digest → d ≡ digest
      by true k = cc k
      by false k = absurd (cc k)

  target_parts : (b c : Bool) (named : Option (List ℕ)) → cond (b && c) (option_and_then (only_manifest files name) named) None ≡ Some digest → (b ≡ true) × ((c ≡ true) × (named ≡ Some digest))
  target_parts true true (Some d) h = (refl, (refl, ap Some (only d h)))
  target_parts true true None h = absurd (cc h)
  target_parts true false named h = absurd (cc h)
  target_parts false c named h = absurd (cc h)

  points : (t : List ℕ) → IsSome (manifest_at files name digest) → is_linked_to files name digest t ≡ true → target_at files name t ≡ Some digest
  points t has h =
      let link = link_of files name digest t h in
      let text = links_to-is (files (tag_path name t)) digest link.holds in
      let named = ap (option_and_then digest_named) text.1 ∙ digest_named-text digest text.0 in
      target_of files name t (tag_path name t) (Some digest) link.named (link.tagged, refl) (sym named) ∙ ap (λ b. cond b (Some digest) None) has

  pointed : (t : List ℕ) → target_at files name t ≡ Some digest → is_linked_to files name digest t ≡ true
  pointed t h =
      let parts = target_parts (is_name name) (is_tag t) (option_and_then digest_named (files (tag_path name t))) h in
      linked_by files name digest (tag_path name t) t parts.0 (parts.1.0, refl) ∙ ap (λ n. option_map_or (pointwise nat_eq digest) n false) parts.1.1 ∙ nat_list_eq_equiv.refl digest

  -- where there is a manifest, the tags whose links hold the text point to it
  pub points_exactly : (tags : List (List ℕ)) → IsSome (manifest_at files name digest) → AreLinkedTo files name digest tags → AreTagsTo (Means files) name digest tags
  points_exactly tags has are = record {
    in_order = are.in_order;
    each = λ t. (λ m. points t has ((are.each t).0 m), λ h. (are.each t).1 (pointed t h));
  }

  -- where there is none, no tag does
  pub points_nowhere : (tags : List (List ℕ)) → is_some (manifest_at files name digest) ≡ false → tags ≡ [] → AreTagsTo (Means files) name digest tags
  points_nowhere tags gone empty = subst (AreTagsTo (Means files) name digest) (sym empty) (record {
    in_order = none_sorted;
    each = λ t. (λ m. absurd (true≢false (sym m)), λ h. absurd (true≢false (sym (tag_there files name t digest h) ∙ gone)));
  })

  points_wherever : {E : Type 0} (r : Result (List (List ℕ)) E) → IsSome (manifest_at files name digest) → IfOk r (AreLinkedTo files name digest) → IfOk r (AreTagsTo (Means files) name digest)
  points_wherever (Ok tags) has are = points_exactly tags has are
  points_wherever (Err e) has are = are

-- what a walk tells, made behind the look at the manifest
pub points_then : {E : Type 0} (h k : Holding) (name digest : List ℕ) (r : Result (List (List ℕ)) E) → k ≡ h → IsSome (manifest_at h.files name digest) → (IsTrue k.tells → IfOk r (AreLinkedTo k.files name digest)) → IsTrue h.tells → IfOk r (AreTagsTo (Means h.files) name digest)
points_then h k name digest r same has walk told =
    points_wherever h.files name digest r has (subst (λ v. IsTrue v.tells → IfOk r (AreLinkedTo v.files name digest)) same walk told)
