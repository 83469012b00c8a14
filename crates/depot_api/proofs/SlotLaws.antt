-- What a change of one slot makes of what is held.
use Rattle.std.proofs.Common.{◌≡◌, ℕ, Bool, true, false, cond, List, Option, Some, None, refl, ap, sym, ◌∙◌, is_eq, is_some, nat_eq, true≢false}
use Rattle.std.specs.Prelude.{not}
use Rattle.std.specs.Cmp.Lexicographic.{pointwise, pointwise_decides, bytes_decides}
use Rattle.std.specs.Option.{option_map_or}
use Rattle.std.proofs.lemmas.Cmp.{tied_itself}
use Rattle.depot_api.specs.Paths.{path_cmp, is_at}
use Rattle.depot_api.specs.Holdings.{Holding}
use Rattle.depot_api.specs.Changes.{with_file, with_loan, with_put, with_lent, with_shelved, with_placed}
use Rattle.depot_api.specs.Slots.{content, is_lent, held_by, staged_at}
use Rattle.depot_api.specs.Memory.{no_loans}
use Rattle.depot_api.specs.Stages.{Staged}
use Rattle.depot_api.specs.declared.memory.slots.Slot.{Slot}
use Rattle.depot_api.specs.declared.memory.slots.Slot.TheVariants.{Whole, Lent}
use Rattle.depot_api.proofs.OrderLaws.{path_total, path_same, equal_from}

abbrev Path : Type 0
Path = List (List ℕ)

abbrev At : Type 0
At = Path → Option Slot

-- holdings that tell alike, with the same files and the same loans
pub same_held : (h k : Holding) → h.tells ≡ k.tells → ((q : Path) → h.files q ≡ k.files q) → ((q : Path) → h.lent q ≡ k.lent q) → h ≡ k
same_held h k tells files lent = λ i. record { tells = tells i; files = λ q. files q i; lent = λ q. lent q i }

over_cond : {X Y : Type 0} (F : X → Y) (c : Bool) (x y : X) → F (cond c x y) ≡ cond c (F x) (F y)
over_cond F true x y = refl
over_cond F false x y = refl

pub same_at : (p q : Path) → is_at p q ≡ true → p ≡ q
same_at p q at = path_same p q (equal_from (path_cmp p q) at)

pub at_itself : (p : Path) → is_at p p ≡ true
at_itself p = ap is_eq (tied_itself path_total p)

-- what stands at p already changes nothing when it is put there
kept_at : {X : Type 0} (F : Path → X) (p q : Path) (x : X) → F p ≡ x → F q ≡ cond (is_at p q) x (F q)
kept_at F p q x is = by (is_at p q) refl
  where
    by : (c : Bool) → c ≡ is_at p q → F q ≡ cond c x (F q)
    by true at = ap F (sym (same_at p q (sym at))) ∙ is
    by false at = refl

content_lent : (slot : Option Slot) → is_lent slot ≡ true → content slot ≡ None
content_lent None lent = refl
content_lent (Some (Whole bytes)) lent = absurd (true≢false (sym lent))
content_lent (Some Lent) lent = refl

lent_content : (slot : Option Slot) (bytes : List ℕ) → Some bytes ≡ content slot → is_lent slot ≡ false
lent_content None bytes is = refl
lent_content (Some (Whole b)) bytes is = refl
lent_content (Some Lent) bytes is = absurd (true≢false (ap is_some is))

-- the slot of one path was set, and those of the others stayed
module _ (f g : At) (p : Path) where
  pub held_put : (bytes : List ℕ) → ((q : Path) → g q ≡ cond (is_at p q) (Some (Whole bytes)) (f q)) → held_by g ≡ with_put (held_by f) p bytes
  held_put bytes set =
      same_held (held_by g) (with_put (held_by f) p bytes) refl
      (λ q. ap content (set q) ∙ over_cond content (is_at p q) (Some (Whole bytes)) (f q))
      (λ q. ap is_lent (set q) ∙ over_cond is_lent (is_at p q) (Some (Whole bytes)) (f q))

  pub held_lent : ((q : Path) → g q ≡ cond (is_at p q) (Some Lent) (f q)) → held_by g ≡ with_lent (held_by f) p
  held_lent set =
      same_held (held_by g) (with_lent (held_by f) p) refl
      (λ q. ap content (set q) ∙ over_cond content (is_at p q) (Some Lent) (f q))
      (λ q. ap is_lent (set q) ∙ over_cond is_lent (is_at p q) (Some Lent) (f q))

  -- a slot is emptied that was a loan, or that was none
  pub held_ended : ((q : Path) → g q ≡ cond (is_at p q) None (f q)) → is_lent (f p) ≡ true → held_by g ≡ with_loan (held_by f) p false
  held_ended set lent =
      same_held (held_by g) (with_loan (held_by f) p false) refl
      (λ q. ap content (set q) ∙ over_cond content (is_at p q) None (f q) ∙ sym (kept_at (λ r. content (f r)) p q None (content_lent (f p) lent)))
      (λ q. ap is_lent (set q) ∙ over_cond is_lent (is_at p q) None (f q))

  pub held_removed : ((q : Path) → g q ≡ cond (is_at p q) None (f q)) → is_lent (f p) ≡ false → held_by g ≡ with_file (held_by f) p None
  held_removed set none =
      same_held (held_by g) (with_file (held_by f) p None) refl
      (λ q. ap content (set q) ∙ over_cond content (is_at p q) None (f q))
      (λ q. ap is_lent (set q) ∙ over_cond is_lent (is_at p q) None (f q) ∙ sym (kept_at (λ r. is_lent (f r)) p q false none))

  -- a slot that is a loan takes the file that comes back
  pub held_back : (bytes : List ℕ) → ((q : Path) → g q ≡ cond (is_at p q) (Some (Whole bytes)) (f q)) → is_lent (f p) ≡ true → held_by g ≡ with_shelved (held_by f) (staged_at p bytes)
  held_back bytes set lent =
      held_put bytes set ∙ ap (λ c. cond c (with_put (held_by f) p bytes) (held_by f)) (sym lent)

-- a path without a loan has none to be ended, and one that is lent no file to be removed
pub none_ended : (f : At) (p : Path) → is_lent (f p) ≡ false → held_by f ≡ with_loan (held_by f) p false
none_ended f p none =
    same_held (held_by f) (with_loan (held_by f) p false) refl (λ q. refl) (λ q. kept_at (λ r. is_lent (f r)) p q false none)

pub none_removed : (f : At) (p : Path) → is_lent (f p) ≡ true → held_by f ≡ with_file (held_by f) p None
none_removed f p lent =
    same_held (held_by f) (with_file (held_by f) p None) refl (λ q. kept_at (λ r. content (f r)) p q None (content_lent (f p) lent)) (λ q. refl)

over_again : {X : Type 0} (c : Bool) (x y z : X) → cond c x z ≡ cond c x (cond c y z)
over_again true x y z = refl
over_again false x y z = refl

-- a path is lent in the place of another one, or of itself
pub lent_instead : (h : Holding) (from to : Path) → (is_at from to ≡ true → ⊥) → with_loan (with_lent h to) from false ≡ with_lent (with_loan h from false) to
lent_instead h from to other =
    same_held (with_loan (with_lent h to) from false) (with_lent (with_loan h from false) to) refl (λ q. refl) turn
  where
    turn : (q : Path) → cond (is_at from q) false (cond (is_at to q) true (h.lent q)) ≡ cond (is_at to q) true (cond (is_at from q) false (h.lent q))
    turn q = by (is_at from q) (is_at to q) refl refl
      where
        by : (a b : Bool) → a ≡ is_at from q → b ≡ is_at to q → cond a false (cond b true (h.lent q)) ≡ cond b true (cond a false (h.lent q))
        by true true a b = absurd (other (ap (is_at from) (same_at to q (sym b)) ∙ sym a))
        by true false a b = refl
        by false true a b = refl
        by false false a b = refl

pub lent_itself : (h : Holding) (p q : Path) → p ≡ q → with_lent h q ≡ with_lent (with_loan h p false) q
lent_itself h p q same =
    same_held (with_lent h q) (with_lent (with_loan h q false) q) refl (λ r. refl) (λ r. over_again (is_at q r) true false (h.lent r))
    ∙ ap (λ r. with_lent (with_loan h r false) q) (sym same)

-- the file of a path that was lent to take it has come
pub put_from_shelved : (h : Holding) (p : Path) (bytes : List ℕ) → h.tells ≡ true → with_shelved (with_lent h p) (staged_at p bytes) ≡ with_put h p bytes
put_from_shelved h p bytes tells =
    ap (λ c. cond c (with_put (with_lent h p) p bytes) (with_lent h p)) (ap (λ c. cond c true (h.lent p)) (at_itself p))
    ∙ same_held (with_put (with_lent h p) p bytes) (with_put h p bytes) refl files (λ q. sym (over_again (is_at p q) false true (h.lent q)))
  where
    files : (q : Path) → (with_put (with_lent h p) p bytes).files q ≡ (with_put h p bytes).files q
    files q =
        ap (λ t. cond t (λ r. cond (is_at p r) (Some bytes) (cond t (λ s. cond (is_at p s) None (h.files s)) h.files r)) (cond t (λ s. cond (is_at p s) None (h.files s)) h.files) q) tells
        ∙ sym (over_again (is_at p q) (Some bytes) None (h.files q))
        ∙ ap (λ t. cond t (λ r. cond (is_at p r) (Some bytes) (h.files r)) h.files q) (sym tells)

-- staged bytes were placed where nothing stood, and where a file stood
pub placed_new : (h : Holding) (staged : Staged) (to : Path) → h.files to ≡ None → with_put (with_loan h staged.path false) to staged.bytes ≡ with_placed h staged to
placed_new h staged to none =
    ap (λ o. with_put (with_loan h staged.path false) to (option_map_or (λ bytes. bytes) o staged.bytes)) (sym none)

pub placed_there : (f : At) (staged : Staged) (to : Path) (bytes : List ℕ) → Some bytes ≡ content (f to) → with_loan (held_by f) staged.path false ≡ with_placed (held_by f) staged to
placed_there f staged to bytes there =
    same_held (with_loan (held_by f) staged.path false) (with_put (with_loan (held_by f) staged.path false) to bytes) refl
    (λ q. kept_at (λ r. content (f r)) to q (Some bytes) (sym there))
    (λ q. kept_at (λ r. cond (is_at staged.path r) false (is_lent (f r))) to q false (ap (cond (is_at staged.path to) false) (lent_content (f to) bytes there) ∙ none (is_at staged.path to)))
    ∙ ap (λ o. with_put (with_loan (held_by f) staged.path false) to (option_map_or (λ b. b) o staged.bytes)) there
  where
    none : (c : Bool) → cond c false false ≡ false
    none true = refl
    none false = refl

-- where nothing is lent, a loan that has ended changes nothing
pub none_lent : (lent : Path → Bool) (p : Path) → lent ≡ no_loans → (with_loan (record { tells = true; files = λ _. None; lent = lent }) p false).lent ≡ no_loans
none_lent lent p none =
    ap (λ (l : Path → Bool). λ (q : Path). cond (is_at p q) false (l q)) none ∙ (λ i q. same (is_at p q) i)
  where
    same : (c : Bool) → cond c false false ≡ false
    same true = refl
    same false = refl

-- what a comparison of two paths tells
pub same_from_ne : (p q : Path) → false ≡ not (pointwise (pointwise nat_eq) p q) → p ≡ q
same_from_ne p q told = (pointwise_decides bytes_decides p q).0 (by (pointwise (pointwise nat_eq) p q) told)
  where
    by : (b : Bool) → false ≡ not b → b ≡ true
    by true t = refl
    by false t = absurd (true≢false (sym t))

pub apart_from_ne : (p q : Path) → true ≡ not (pointwise (pointwise nat_eq) p q) → is_at p q ≡ true → ⊥
apart_from_ne p q told at =
    true≢false (told ∙ ap not ((pointwise_decides bytes_decides p q).1 (same_at p q at)))
