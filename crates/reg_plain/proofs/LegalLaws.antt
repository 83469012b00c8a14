-- Conditions by look-ups and walks.
use Rattle.std.proofs.Common.{◌≡◌, ℕ, zero, suc, ◌+◌, ◌<◌, Bool, true, false, cond, List, [], ◌∷◌, ◌++◌, length, get_or, take, Option, Some, None, Less, refl, sym, ap, subst, ◌∙◌, add-one, arith}
use Rattle.std.specs.Prelude.{◌||◌, ◌≤◌, not, MatchBool, is_some, IsSome}
use Rattle.std.specs.Option.{option_or}
use Rattle.std.specs.List.{AllByRecursion, list_any}
use Rattle.std.specs.Ordering.{nat_cmp, is_eq}
use Rattle.std.specs.Cmp.Lexicographic.{slice_cmp, bytes_decides, nat_list_cmp_total}
use Rattle.std.proofs.Math.Seq.{take-suc}
use Rattle.std.proofs.lemmas.Bool.{false≢true}
use Rattle.std.proofs.lemmas.Option.{same_Some}
use Rattle.std.proofs.lemmas.Cmp.{tied_itself}
use Rattle.std.proofs.lemmas.Map.Keys.{sorted_head, sorted_tail}
use Rattle.reg_names.specs.declared.named.Named.{Named}
use Rattle.reg_names.specs.Named.{AscendStrictly, has_digest, digests_of, free_in}
use Rattle.reg_journal.specs.declared.past.KeptLink.{KeptLink}
use Rattle.reg_journal.specs.Past.{Past}
use Rattle.reg_journal.specs.Changes.{is_same}
use Rattle.reg_journal.specs.Legal.{IsUntagged, IsUnlisted, IsUnlinked, IsUnnamed, IsLoose, IsAbandoned, IsLinkOver}
use Rattle.reg_plain.specs.Held.{Decided}
use Rattle.reg_plain.proofs.MapLaws.{same, either}

-- ---- whether a named digest is free

free_append : (d : List ℕ) (ns : List Named) (n : Named) → free_in d (ns ++ n ∷ []) ≡ option_or (free_in d ns) (cond (is_same d n.digest) (Some n.free) None)
free_append d [] n = refl
free_append d (m ∷ ns) n = ap (λ o. cond (is_same d m.digest) (Some m.free) o) (free_append d ns n) ∙ by (is_same d m.digest)
  where
    by : (b : Bool) → cond b (Some m.free) (option_or (free_in d ns) (cond (is_same d n.digest) (Some n.free) None)) ≡ option_or (cond b (Some m.free) (free_in d ns)) (cond (is_same d n.digest) (Some n.free) None)
    by true = refl
    by false = refl

-- what holds of each digest that is not free holds with one item more
pub one_named_holds : (P : List ℕ → Type 0) (named : List Named) (i : ℕ) (n : Named) → n ≡ get_or named i n → i < length named
    → (n.free ≡ false → P n.digest) → ((d : List ℕ) → free_in d (take i named) ≡ Some false → P d)
    → (d : List ℕ) → free_in d (take (i + 1) named) ≡ Some false → P d
one_named_holds P named i n at lt here before d h =
    by (free_in d (take i named)) refl
    (sym (free_append d (take i named) n) ∙ ap (λ (x : Named). free_in d (take i named ++ x ∷ [])) at ∙ sym (ap (free_in d) (ap (λ k. take k named) (add-one i) ∙ take-suc named i n lt)) ∙ h)
  where
    new : (b : Bool) → is_same d n.digest ≡ b → cond b (Some n.free) None ≡ Some false → P d
    new true t e = subst P (sym (same d n.digest t)) (here (same_Some n.free false e))
    new false t e = absurd (false≢true (ap is_some e))

    by : (o : Option Bool) → free_in d (take i named) ≡ o → option_or o (cond (is_same d n.digest) (Some n.free) None) ≡ Some false → P d
    by (Some f) e g = before d (e ∙ g)
    by None e g = new (is_same d n.digest) refl g

either_so : {P : Type 0} (b c : Bool) → (b ≡ true → P) → (c ≡ true → P) → (b || c) ≡ true → P
either_so true c f g h = f refl
either_so false c f g h = g h

above : (x q : List ℕ) (ds : List (List ℕ)) → AllByRecursion (λ y. slice_cmp nat_cmp x y ≡ Less) ds → has_digest q ds ≡ true → slice_cmp nat_cmp x q ≡ Less
above x q [] all h = absurd (false≢true h)
above x q (d ∷ ds) all h =
    either_so (is_same q d) (has_digest q ds) (λ t. ap (slice_cmp nat_cmp x) (same q d t) ∙ all.0) (λ t. above x q ds all.1 t) h

is_among : (d : List ℕ) (b : Bool) (ns : List Named) → free_in d ns ≡ Some b → has_digest d (digests_of ns) ≡ true
is_among d b [] h = absurd (false≢true (ap is_some h))
is_among d b (n ∷ ns) h = by (is_same d n.digest) (λ e. is_among d b ns e) h
  where
    by : (t : Bool) → (free_in d ns ≡ Some b → has_digest d (digests_of ns) ≡ true) → cond t (Some n.free) (free_in d ns) ≡ Some b → (t || has_digest d (digests_of ns)) ≡ true
    by true f h = refl
    by false f h = f h

itself : (x : List ℕ) → is_same x x ≡ true
itself x = (bytes_decides x x).1 refl

-- an item of ascending ones tells whether its digest is free
pub free_at : (ns : List Named) → AscendStrictly (digests_of ns) → (i : ℕ) (n : Named) → n ≡ get_or ns i n → i < length ns → free_in n.digest ns ≡ Some n.free
free_at [] s i n at lt = absurd (omega (arith, lt))
free_at (m ∷ ns) s zero n at lt = subst (λ (x : Named). free_in x.digest (m ∷ ns) ≡ Some x.free) (sym at) (ap (λ b. cond b (Some m.free) (free_in m.digest ns)) (itself m.digest))
free_at (m ∷ ns) s (suc i) n at lt =
    let rest : free_in n.digest ns ≡ Some n.free = free_at ns (sorted_tail (slice_cmp nat_cmp) m.digest (digests_of ns) s) i n at (omega (arith, lt)) in
    let less : slice_cmp nat_cmp m.digest n.digest ≡ Less = above m.digest n.digest (digests_of ns) (sorted_head (slice_cmp nat_cmp) m.digest (digests_of ns) s) (is_among n.digest n.free ns rest) in
    either (is_same n.digest m.digest)
    (λ t. absurd (false≢true (ap is_eq (sym less ∙ ap (slice_cmp nat_cmp m.digest) (same n.digest m.digest t) ∙ tied_itself nat_list_cmp_total m.digest))))
    (λ f. ap (λ b. cond b (Some m.free) (free_in n.digest ns)) f ∙ rest)

-- what holds of each digest of a list holds with one item more
pub one_child_holds : (P : List ℕ → Type 0) (before : Bool) (d q : List ℕ) → P d → (before ≡ true → P q) → (before || is_same d q) ≡ true → P q
one_child_holds P true d q here so_far h = so_far refl
one_child_holds P false d q here so_far h = subst P (same d q h) here

-- ---- a manifest's digests

pub any_named : (q : List ℕ) (ns : List Named) → list_any (λ n. is_same q n.digest) ns ≡ has_digest q (digests_of ns)
any_named q [] = refl
any_named q (n ∷ ns) = ap (λ b. is_same q n.digest || b) (any_named q ns)

-- ---- conditions, by the tests for their parts

pub is_loose_by : (listed : Bool) (past : Past) (name digest : List ℕ) → IsSome (past.manifests name digest) → IsUntagged past name digest
    → MatchBool listed (¬ (IsUnlisted past name digest)) (IsUnlisted past name digest) → Decided (not listed) (IsLoose past name digest)
is_loose_by true past name digest stands untagged h = λ l. h l.unlisted
is_loose_by false past name digest stands untagged h = record { stands = stands; untagged = untagged; unlisted = h }

pub is_doomed_by : (over : Bool) (past : Past) (digest : List ℕ) (Over : Type 0) → past.condemned digest ≡ None → IsUnlinked past digest → IsUnnamed past digest → Decided over Over
    → Decided over (IsAbandoned past digest × Over)
is_doomed_by true past digest Over standing unlinked unnamed h = (record { standing = standing; unlinked = unlinked; unnamed = unnamed }, h)
is_doomed_by false past digest Over standing unlinked unnamed h = λ p. h p.1

pub is_dropped_by : (over : Bool) (Unnamed : Type 0) (delay now : ℕ) (found : Option KeptLink) (link : KeptLink) → found ≡ Some link → Unnamed → Decided over (link.moment + delay ≤ now)
    → Decided over (Unnamed × IsLinkOver delay now found)
is_dropped_by true Unnamed delay now found link is unnamed h = (unnamed, subst (IsLinkOver delay now) (sym is) h)
is_dropped_by false Unnamed delay now found link is unnamed h = λ p. h (subst (IsLinkOver delay now) is p.1)

pub is_child : (ds : List (List ℕ)) (i : ℕ) (d : List ℕ) → d ≡ get_or ds i d → i < length ds → has_digest d ds ≡ true
is_child [] i d at lt = absurd (omega (arith, lt))
is_child (e ∷ ds) zero d at lt = subst (λ x. has_digest x (e ∷ ds) ≡ true) (sym at) (ap (λ b. b || has_digest e ds) (itself e))
is_child (e ∷ ds) (suc i) d at lt = by (is_same d e) (is_child ds i d at (omega (arith, lt)))
  where
    by : (b : Bool) → has_digest d ds ≡ true → (b || has_digest d ds) ≡ true
    by true h = refl
    by false h = h
