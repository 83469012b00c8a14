-- Walks: the paths that follow each other, and the first at which something is wanted.
use Rattle.std.proofs.Common.{◌≡◌, ℕ, zero, suc, Bool, true, false, List, [], ◌∷◌, Option, Some, None, refl, sym, ap, subst, ◌∙◌, true≢false}
use Rattle.std.specs.Prelude.{IsTrue, IsSome, MatchOption, is_some}
use Rattle.std.proofs.lemmas.List.{nil_from_length}
use Rattle.std.specs.declared.cmp.Ordering.{Ordering}
use Rattle.std.specs.declared.cmp.Ordering.TheVariants.{Less, Equal, Greater}
use Rattle.std.specs.Ordering.{is_lt, ordering_reverse}
use Rattle.std.specs.declared.vec.IntoIter.{IntoIter}
use Rattle.std.specs.Vec.Iter.{into_iter_items, into_iter_steps}
use Rattle.depot_api.specs.Files.{Files}
use Rattle.depot_api.specs.Paths.{path_cmp, is_below}
use Rattle.depot_api.specs.Pages.{is_after, IsAsked, IsNextPath, IsPage}
use Rattle.depot_api.proofs.OrderLaws.{path_total, path_same, is_below-trans}
use Rattle.depot_api.specs.Holdings.{Holding}
use Rattle.link_reading.specs.InnerWalks.{Spot, AreNext, IsReady, PassesOn, Quest, LiesAt, NoneWanted, IsFirst, WalksTo}

abbrev Path : Type 0
Path = List (List ℕ)

-- ---- pages

-- the first of the paths that an iterator holds
pub first_held : {Z : Type 0} (found : Option Path) (s t : IntoIter Path Z) (page : List Path) → into_iter_items s ≡ page → into_iter_steps s found t → MatchOption found (page ≡ []) (λ p. page ≡ p ∷ into_iter_items t)
first_held None s t page e h = sym e ∙ nil_from_length _ (sym s.rest.ok.0 ∙ h.0)
first_held (Some p) s t page e h = sym e ∙ h.0

are_next : (files : Files) (folder : Path) (n : ℕ) (after : Option Path) (page : List Path) → IsPage files folder after n page → AreNext files folder after page
are_next files folder zero after page h = subst (AreNext files folder after) (sym h) tt
are_next files folder (suc n) after [] h = tt
are_next files folder (suc n) after (p ∷ rest) h = (h.0, are_next files folder n (Some p) rest h.1)

-- the first path of a page that is not empty, and those behind it
pub first_of_page : (files : Files) (spot : Spot) (n : ℕ) (page left : List Path) (found : Option Path) → IsPage files spot.folder spot.after (suc n) page → MatchOption found (page ≡ []) (λ p. page ≡ p ∷ left) → PassesOn files spot left found
first_of_page files spot n page left None h is = subst (IsPage files spot.folder spot.after (suc n)) is h
first_of_page files spot n page left (Some p) h is =
    let rest = subst (IsPage files spot.folder spot.after (suc n)) is h in
    (rest.0, are_next files spot.folder n (Some p) left rest.1)

-- the first of the paths that were held
pub first_of_held : (files : Files) (spot : Spot) (left : List Path) (found : Option Path) → AreNext files spot.folder spot.after spot.left → MatchOption found (spot.left ≡ []) (λ p. spot.left ≡ p ∷ left) → (p : Path) → found ≡ Some p → PassesOn files spot left (Some p)
first_of_held files spot left None ready is p e = absurd (cc e)
first_of_held files spot left (Some q) ready is p e = subst (λ r. PassesOn files spot left (Some r)) (cc e) (subst (AreNext files spot.folder spot.after) is ready)

-- ---- what was passed

after_trans : (after : Option Path) (p q : Path) → is_after after p ≡ true → is_below p q ≡ true → is_after after q ≡ true
after_trans None p q h k = refl
after_trans (Some a) p q h k = is_below-trans a p q h k

gone_there : {X : Type 0} (file : Option (List ℕ)) → file ≡ None → IsSome file → X
gone_there file gone there = absurd (true≢false (sym there ∙ ap is_some gone))

module _ {V : Type 0} (quest : Quest V) (files : Files) (folder : Path) where
  -- a walk that began behind `before` stands behind `after`, and nothing between them was wanted
  pub record Passed (before after : Option Path) : Type 0 where
    pub nothing : NoneWanted quest files folder before (λ p. is_after after p ≡ false)
    pub behind : (q : Path) → is_after after q ≡ true → is_after before q ≡ true

  pub passed_none : (before : Option Path) → Passed before before
  passed_none before = record { nothing = λ v asked behind there. absurd (true≢false (sym asked.0 ∙ behind)); behind = λ q h. h }

  at_order : (o : Ordering) (p : Path) (v : V) → path_cmp (quest.place v) p ≡ o → (is_below (quest.place v) p ≡ true → files (quest.place v) ≡ None) → LiesAt quest files p None → is_below p (quest.place v) ≡ false → IsSome (files (quest.place v)) → quest.wanted files v ≡ false
  at_order Less p v is gone here behind there = gone_there (files (quest.place v)) (gone (ap is_lt is)) there
  at_order Equal p v is gone here behind there = here v (path_same (quest.place v) p is)
  at_order Greater p v is gone here behind there =
      absurd (true≢false (sym (ap is_lt (path_total.antisymm p (quest.place v) ∙ ap ordering_reverse is)) ∙ behind))

  module _ (before after : Option Path) (s : Passed before after) where
    asked_or_passed : (b : Bool) (v : V) → is_after after (quest.place v) ≡ b → IsAsked folder before (quest.place v) → IsSome (files (quest.place v)) → (IsAsked folder after (quest.place v) → quest.wanted files v ≡ false) → quest.wanted files v ≡ false
    asked_or_passed true v is asked there h = h (is, asked.1)
    asked_or_passed false v is asked there h = s.nothing v asked is there

    -- the next file was passed too
    pub passed_next : (p : Path) → IsNextPath files folder after (Some p) → LiesAt quest files p None → Passed before (Some p)
    passed_next p next here = record {
      nothing = λ v asked behind there.
          asked_or_passed _ v refl asked there (λ later. at_order (path_cmp (quest.place v) p) p v refl (next.2 (quest.place v) later) here behind there);
      behind = λ q below. s.behind q (after_trans after p q next.0.0 below);
    }

    -- what is wanted at the next file is the first
    pub first_is : (p : Path) (v : V) → IsNextPath files folder after (Some p) → LiesAt quest files p (Some v) → IsFirst quest files folder before (Some v)
    first_is p v next here = (
      subst (IsAsked folder before) (sym here.0) (s.behind p next.0.0, next.0.1),
      here.1,
      λ w asked less there.
          asked_or_passed _ w refl asked there (λ later. gone_there (files (quest.place w)) (next.2 (quest.place w) later (subst (λ q. IsTrue (is_below (quest.place w) q)) here.0 less)) there),
    )

    -- at the end nothing is
    pub none_is : IsNextPath files folder after None → IsFirst quest files folder before None
    none_is ended = λ w asked any there. asked_or_passed _ w refl asked there (λ later. gone_there (files (quest.place w)) (ended (quest.place w) later) there)

-- ---- what a turn tells, by what the depot held at the walk's begin

pub passes : (h k : Holding) (from : Spot) (left : List Path) (o found : Option Path) → h ≡ k → o ≡ found → (IsTrue h.tells → IsReady h.files from → PassesOn h.files from left o) → IsTrue k.tells → IsReady k.files from → PassesOn k.files from left found
passes h k from left o found e is next =
    subst (λ r. IsTrue k.tells → IsReady k.files from → PassesOn k.files from left r) is (subst (λ v. IsTrue v.tells → IsReady v.files from → PassesOn v.files from left o) e next)

pub looks : {V : Type 0} (h k : Holding) (quest asked : Quest V) (sound : Files → Type 0) (path : Path) (o found : Option V) → h ≡ k → quest ≡ asked → o ≡ found → (IsTrue h.tells → sound h.files → LiesAt quest h.files path o) → IsTrue k.tells → sound k.files → LiesAt asked k.files path found
looks {V} h k quest asked sound path o found e same is look =
    subst (λ r. IsTrue k.tells → sound k.files → LiesAt asked k.files path r) is
    (subst (λ q. IsTrue k.tells → sound k.files → LiesAt q k.files path o) same (subst (λ v. IsTrue v.tells → sound v.files → LiesAt quest v.files path o) e look))

pub stays_sound : (h k : Holding) (old new : Files → Type 0) → h ≡ k → (IsTrue h.tells → old h.files → new h.files) → IsTrue k.tells → old k.files → new k.files
stays_sound h k old new e keeps = subst (λ v. IsTrue v.tells → old v.files → new v.files) e keeps

pub walks : {V : Type 0} (h k : Holding) (quest asked : Quest V) (sound : Files → Type 0) (from to : Spot) (o found : Option V) → h ≡ k → quest ≡ asked → o ≡ found → (IsTrue h.tells → IsReady h.files from → sound h.files → WalksTo quest h.files from to o) → IsTrue k.tells → IsReady k.files from → sound k.files → WalksTo asked k.files from to found
walks {V} h k quest asked sound from to o found e same is walk =
    subst (λ r. IsTrue k.tells → IsReady k.files from → sound k.files → WalksTo asked k.files from to r) is
    (subst (λ q. IsTrue k.tells → IsReady k.files from → sound k.files → WalksTo q k.files from to o) same (subst (λ v. IsTrue v.tells → IsReady v.files from → sound v.files → WalksTo quest v.files from to o) e walk))
