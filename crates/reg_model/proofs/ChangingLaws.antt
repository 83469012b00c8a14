-- Where all is told, a request that changes comes to one outcome.
use Rattle.std.proofs.Common.{◌≡◌, ℕ, Bool, true, false, List, [], ◌∷◌, nat_eq, Option, Some, None, refl, sym, ap, subst, ◌∙◌, true≢false}
use Rattle.std.specs.Prelude.{◌||◌, ⊤}
use Rattle.std.specs.List.{list_any, AllByRecursion}
use Rattle.std.specs.List.Sorted.{IsStrictlySortedBy}
use Rattle.std.specs.declared.cmp.Ordering.{Ordering}
use Rattle.std.specs.declared.cmp.Ordering.TheVariants.{Less, Equal, Greater}
use Rattle.std.specs.Ordering.{nat_cmp, is_lt, is_eq, ordering_reverse}
use Rattle.std.specs.Cmp.Lexicographic.{slice_cmp, pointwise, same_text, texts_ties, nat_list_cmp_total, nat_list_eq_equiv}
use Rattle.reg_names.specs.declared.reference.Reference.{Reference}
use Rattle.reg_names.specs.declared.reference.Reference.TheVariants.{Tag, Digest}
use Rattle.manifest_doc.specs.declared.pushed.Judged.{Judged}
use Rattle.manifest_doc.specs.declared.pushed.Judged.TheVariants.{Good, Bad}
use Rattle.manifest_doc.specs.declared.pushed.Pushed.{Pushed}
use Rattle.reg_entries.specs.Listing.{AreTagsTo}
use Rattle.reg_entries.specs.Numbers.{blob_unknown, manifest_unknown}
use Rattle.reg_entries.specs.State.{State, IsLeastParent}
use Rattle.reg_model.specs.Answers.{lacking}
use Rattle.reg_model.specs.Changing.{Outcome, refuses, Lacks, Starts, start_outcome, document_outcome, PushesJudged, Pushes, Unlinks, UnlinksBy, Untags, UntagsBy, DropsStanding, drop_outcome, DropsManifest, DropsBy, Drops, HasOneOutcome}
use Rattle.reg_model.proofs.AnswerLaws.{known_alone}

-- ---- lists in order

-- of two texts that are not one, one is below the other
by_order : {X : Type 0} (t u : List ℕ) → (slice_cmp nat_cmp t u ≡ Less → X) → (t ≡ u → X) → (slice_cmp nat_cmp u t ≡ Less → X) → X
by_order {X} t u less same greater = by (slice_cmp nat_cmp t u) refl
  where
    by : (o : Ordering) → slice_cmp nat_cmp t u ≡ o → X
    by Less e = less e
    by Equal e = same (same_text t u (sym (texts_ties t u ∙ ap is_eq e)))
    by Greater e = greater (nat_list_cmp_total.antisymm u t ∙ ap ordering_reverse e)

not_below_itself : (t : List ℕ) → slice_cmp nat_cmp t t ≡ Less → ⊥
not_below_itself t e = true≢false (sym (nat_list_eq_equiv.refl t) ∙ texts_ties t t ∙ ap is_eq e)

not_both : (t u : List ℕ) → slice_cmp nat_cmp t u ≡ Less → slice_cmp nat_cmp u t ≡ Less → ⊥
not_both t u h k = not_below_itself t (nat_list_cmp_total.trans t u t h k)

abbrev has : List ℕ → List (List ℕ) → Bool
has t ts = list_any (pointwise nat_eq t) ts

-- what is in a list is its first, or behind that
later_or_first : (x u : List ℕ) (us : List (List ℕ)) {X : Type 0} → has x (u ∷ us) ≡ true → (x ≡ u → X) → (has x us ≡ true → X) → X
later_or_first x u us {X} h first later = by (pointwise nat_eq x u) refl h
  where
    by : (b : Bool) → pointwise nat_eq x u ≡ b → (b || has x us) ≡ true → X
    by true e k = first (same_text x u (sym e))
    by false e k = later k

-- what is in a list whose texts are all above another is above that
above : (t : List ℕ) (us : List (List ℕ)) (u : List ℕ) → AllByRecursion (λ y. slice_cmp nat_cmp u y ≡ Less) us → has t us ≡ true → slice_cmp nat_cmp u t ≡ Less
above t [] u h is = absurd (true≢false (sym is))
above t (v ∷ vs) u h is =
    later_or_first t v vs is (λ e. subst (λ x. slice_cmp nat_cmp u x ≡ Less) (sym e) h.0) (λ later. above t vs u h.1 later)

is_first : (t : List ℕ) (ts : List (List ℕ)) → has t (t ∷ ts) ≡ true
is_first t ts = ap (λ b. b || has t ts) (nat_list_eq_equiv.refl t)

or_true : (b : Bool) → (b || true) ≡ true
or_true true = refl
or_true false = refl

is_later : (x t : List ℕ) (ts : List (List ℕ)) → has x ts ≡ true → has x (t ∷ ts) ≡ true
is_later x t ts h = ap (λ b. pointwise nat_eq x t || b) h ∙ or_true (pointwise nat_eq x t)

abbrev AreSame : List (List ℕ) → List (List ℕ) → Type 0
AreSame one two = (x : List ℕ) → (has x one ≡ true → has x two ≡ true) × (has x two ≡ true → has x one ≡ true)

-- two lists in order begin with one text, where each has what the other has
same_first : (t u : List ℕ) (ts us : List (List ℕ)) → IsStrictlySortedBy (slice_cmp nat_cmp) (t ∷ ts) → IsStrictlySortedBy (slice_cmp nat_cmp) (u ∷ us) → has t (u ∷ us) ≡ true → has u (t ∷ ts) ≡ true → t ≡ u
unfolding IsStrictlySortedBy
same_first t u ts us h k there here =
    later_or_first t u us there (λ e. e)
    (λ later. later_or_first u t ts here (λ e. sym e)
    (λ last. absurd (not_both t u (above u ts t h.0 last) (above t us u k.0 later))))

-- what is behind the first of a list, and is in another that begins alike, is behind the first of that
behind : (x t : List ℕ) (ts us : List (List ℕ)) → AllByRecursion (λ y. slice_cmp nat_cmp t y ≡ Less) ts → has x ts ≡ true → has x (t ∷ us) ≡ true → has x us ≡ true
behind x t ts us h is there =
    later_or_first x t us there
    (λ e. absurd (not_below_itself t (subst (λ y. slice_cmp nat_cmp t y ≡ Less) e (above x ts t h is))))
    (λ later. later)

-- lists in order that have the same are one
pub sorted_alone : (one two : List (List ℕ)) → IsStrictlySortedBy (slice_cmp nat_cmp) one → IsStrictlySortedBy (slice_cmp nat_cmp) two → AreSame one two → one ≡ two
unfolding IsStrictlySortedBy
sorted_alone [] [] h k same = refl
sorted_alone [] (u ∷ us) h k same = absurd (true≢false (sym ((same u).1 (is_first u us))))
sorted_alone (t ∷ ts) [] h k same = absurd (true≢false (sym ((same t).0 (is_first t ts))))
sorted_alone (t ∷ ts) (u ∷ us) h k same =
    let first = same_first t u ts us h k ((same t).0 (is_first t ts)) ((same u).1 (is_first u us)) in
    let k2 = subst (λ x. IsStrictlySortedBy (slice_cmp nat_cmp) (x ∷ us)) (sym first) k in
    let same2 = subst (λ x. AreSame (t ∷ ts) (x ∷ us)) (sym first) same in
    ap (λ x. x ∷ ts) first
    ∙ ap (λ xs. u ∷ xs) (sorted_alone ts us h.1 k.1 (λ x. (λ is. behind x t ts us h.0 is ((same2 x).0 (is_later x t ts is)), λ is. behind x t us ts k2.0 is ((same2 x).1 (is_later x t us is)))))

-- ---- what is looked up is one

tags_alone : (state : State) (name digest : List ℕ) (one two : List (List ℕ)) → AreTagsTo state name digest one → AreTagsTo state name digest two → one ≡ two
tags_alone state name digest one two h k =
    sorted_alone one two h.in_order k.in_order
    (λ x. (λ is. (k.each x).1 ((h.each x).0 is), λ is. (h.each x).1 ((k.each x).0 is)))

parent_alone : (state : State) (name child : List ℕ) (one two : Option (List ℕ)) → IsLeastParent state name child one → IsLeastParent state name child two → one ≡ two
parent_alone state name child None None h k = refl
parent_alone state name child None (Some e) h k = absurd (h e k.0)
parent_alone state name child (Some d) None h k = absurd (k d h.0)
parent_alone state name child (Some d) (Some e) h k =
    by_order d e
    (λ less. absurd (k.1 d (ap is_lt less) h.0))
    (λ same. ap Some same)
    (λ less. absurd (h.1 e (ap is_lt less) k.0))

lacks_alone : (state : State) (name : List ℕ) (number : ℕ) (one two : Outcome) → Lacks ⊤ state name number one → Lacks ⊤ state name number two → one ≡ two
lacks_alone state name number one two h k =
    h.2 ∙ ap (λ b. refuses (lacking b number)) (known_alone state name h.0 k.0 (h.1 tt) (k.1 tt)) ∙ sym k.2

-- ---- requests

pub starts_alone : (name id : List ℕ) (mount : Option (List ℕ × List ℕ)) (now : ℕ) → HasOneOutcome (Starts name id mount now)
starts_alone name id mount now facts one two h k =
    let stands = h.stands_so tt ∙ sym (k.stands_so tt) in
    let size = h.size_so tt ∙ sym (k.size_so tt) in
    h.is ∙ (λ i. start_outcome name id mount now (stands i) (size i)) ∙ sym k.is

judged_alone : (name : List ℕ) (at : Reference) (digest bytes : List ℕ) (judged : Judged) → HasOneOutcome (PushesJudged name at digest bytes judged)
judged_alone name at digest bytes (Bad word) facts one two h k = h ∙ sym k
judged_alone name at digest bytes (Good doc) facts one two h k =
    h.is ∙ ap (document_outcome name at digest bytes doc) (h.missing_so tt ∙ sym (k.missing_so tt)) ∙ sym k.is

pub pushes_alone : (name : List ℕ) (at : Option Reference) (pushed : Pushed) → HasOneOutcome (Pushes name at pushed)
pushes_alone name None pushed facts one two h k = h ∙ sym k
pushes_alone name (Some at) pushed facts one two h k =
    judged_alone name at pushed.digest pushed.bytes pushed.judged facts one two h k

unlinks_by_alone : (state : State) (name digest : List ℕ) (linked : Bool) (one two : Outcome) → UnlinksBy ⊤ state name digest linked one → UnlinksBy ⊤ state name digest linked two → one ≡ two
unlinks_by_alone state name digest true one two h k = h ∙ sym k
unlinks_by_alone state name digest false one two h k = lacks_alone state name blob_unknown one two h k

pub unlinks_alone : (name digest : List ℕ) → HasOneOutcome (Unlinks name digest)
unlinks_alone name digest facts one two h k =
    let same = h.linked_so tt ∙ sym (k.linked_so tt) in
    unlinks_by_alone facts.state name digest k.linked one two (subst (λ b. UnlinksBy ⊤ facts.state name digest b one) same h.is) k.is

untags_by_alone : (state : State) (name tag : List ℕ) (stands : Bool) (one two : Outcome) → UntagsBy ⊤ state name tag stands one → UntagsBy ⊤ state name tag stands two → one ≡ two
untags_by_alone state name tag true one two h k = h ∙ sym k
untags_by_alone state name tag false one two h k = lacks_alone state name manifest_unknown one two h k

untags_alone : (name tag : List ℕ) → HasOneOutcome (Untags name tag)
untags_alone name tag facts one two h k =
    let same = h.stands_so tt ∙ sym (k.stands_so tt) in
    untags_by_alone facts.state name tag k.stands one two (subst (λ b. UntagsBy ⊤ facts.state name tag b one) same h.is) k.is

-- what goes with a manifest is looked up only where nothing lists it
drop_alone : (state : State) (name digest : List ℕ) (lister : Option (List ℕ)) (one two : List (List ℕ)) → (lister ≡ None → AreTagsTo state name digest one) → (lister ≡ None → AreTagsTo state name digest two) → drop_outcome name digest lister one ≡ drop_outcome name digest lister two
drop_alone state name digest (Some lister) one two h k = refl
drop_alone state name digest None one two h k =
    ap (drop_outcome name digest None) (tags_alone state name digest one two (h refl) (k refl))

standing_alone : (state : State) (name digest : List ℕ) (one two : Outcome) → DropsStanding ⊤ state name digest one → DropsStanding ⊤ state name digest two → one ≡ two
standing_alone state name digest one two h k =
    let same = parent_alone state name digest h.lister k.lister (h.lister_so tt) (k.lister_so tt) in
    h.is ∙ ap (λ l. drop_outcome name digest l h.tags) same
    ∙ drop_alone state name digest k.lister h.tags k.tags (λ e. h.tags_so tt (same ∙ e)) (k.tags_so tt) ∙ sym k.is

drops_by_alone : (state : State) (name digest : List ℕ) (stands : Bool) (one two : Outcome) → DropsBy ⊤ state name digest stands one → DropsBy ⊤ state name digest stands two → one ≡ two
drops_by_alone state name digest true one two h k = standing_alone state name digest one two h k
drops_by_alone state name digest false one two h k = lacks_alone state name manifest_unknown one two h k

manifest_alone : (name digest : List ℕ) → HasOneOutcome (DropsManifest name digest)
manifest_alone name digest facts one two h k =
    let same = h.stands_so tt ∙ sym (k.stands_so tt) in
    drops_by_alone facts.state name digest k.stands one two (subst (λ b. DropsBy ⊤ facts.state name digest b one) same h.is) k.is

pub drops_alone : (name : List ℕ) (at : Option Reference) → HasOneOutcome (Drops name at)
drops_alone name None facts one two h k = lacks_alone facts.state name manifest_unknown one two h k
drops_alone name (Some (Tag tag)) facts one two h k = untags_alone name tag facts one two h k
drops_alone name (Some (Digest digest)) facts one two h k = manifest_alone name digest facts one two h k
