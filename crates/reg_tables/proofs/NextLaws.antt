-- Keys that begin with a front, and the order of what they have behind it.
use Rattle.std.proofs.Common.{◌≡◌, ℕ, zero, suc, true, List, [], ◌∷◌, ◌++◌, Option, Some, None, refl, sym, ap, subst, ◌∙◌, append_assoc, inl, inr, arith, Ordering, Less, Equal, Greater}
use Rattle.std.specs.Prelude.{MatchOption}
use Rattle.std.specs.Ordering.{nat_cmp, is_lt, ordering_then}
use Rattle.std.specs.Cmp.{nat_cmp_is, nat_cmp_total}
use Rattle.std.specs.Cmp.Lexicographic.{slice_cmp}
use Rattle.std.proofs.lemmas.Bool.Decides.{nat_tests}
use Rattle.std.proofs.lemmas.Cmp.{tied_itself}
use Rattle.std.proofs.lemmas.Option.{same_Some}
use Rattle.reg_names.specs.Digests.{IsDigest}
use Rattle.reg_names.specs.Names.{IsName}
use Rattle.reg_names.specs.Tags.{IsTag}
use Rattle.reg_entries.specs.Listing.{is_behind}
use Rattle.keeper_api.specs.declared.field.Field.{Field}
use Rattle.keeper_api.specs.declared.field.Field.TheVariants as field
use Rattle.keeper_api.specs.Fields.{ended, Spells, AreFields}
use Rattle.keeper_api.specs.InnerFields.{strip}
use Rattle.keeper_api.specs.Rows.{Rows, is_below, IsNextRow}
use Rattle.keeper_api.proofs.FieldLaws.{strips}
use Rattle.keeper_api.specs.Tables.{lines, Fits}
use Rattle.reg_tables.proofs.FormLaws.{lines_of, in_table, one_field, one_digest}
use Rattle.reg_tables.specs.InnerNexts.{IsNextBehind, IsEndedTag, bound_of}
use Rattle.reg_tables.specs.Nexts.{IsNextAt}

-- ---- the order of keys

itself : (a : ℕ) → nat_cmp a a ≡ Equal
itself a = tied_itself nat_cmp_total a

-- behind one front the order is that of the rests
pub same_front : (front x y : List ℕ) → slice_cmp nat_cmp (front ++ x) (front ++ y) ≡ slice_cmp nat_cmp x y
same_front [] x y = refl
same_front (a ∷ front) x y = rw (itself a) (same_front front x y)

-- a key above one that begins with the front, which does not begin with it itself, is above all that do
pub beyond : (front x y key : List ℕ) → is_below (front ++ x) key ≡ true → ((z : List ℕ) → ¬ (key ≡ front ++ z)) → is_below (front ++ y) key ≡ true
beyond [] x y key b n = absurd (n key refl)
beyond (a ∷ front) x y [] b n = cc
beyond (a ∷ front) x y (e ∷ key) b n = by (nat_cmp a e) refl (λ h same. beyond front x y key h (λ z i. n z (ap (λ t. t ∷ key) (sym same) ∙ ap (λ t. a ∷ t) i))) b
  where
    by : (o : Ordering) → nat_cmp a e ≡ o → (is_below (front ++ x) key ≡ true → a ≡ e → is_below (front ++ y) key ≡ true) → is_lt (ordering_then o (slice_cmp nat_cmp (front ++ x) key)) ≡ true → is_lt (ordering_then (nat_cmp a e) (slice_cmp nat_cmp (front ++ y) key)) ≡ true
    by Less q rest h = rw q refl
    by Equal q rest h = rw q (rest h (grind (arith, nat_tests)))
    by Greater q rest h = cc

below_more : (b : ℕ) (y : List ℕ) → ordering_then (nat_cmp 0 b) (slice_cmp nat_cmp [] (y ++ 0 ∷ [])) ≡ Less
below_more zero [] = refl
below_more zero (c ∷ y) = refl
below_more (suc b) y = let e : Less ≡ nat_cmp 0 (suc b) = nat_cmp_is 0 (suc b) Less (omega arith) in rw (← e) refl

above_none : (a : ℕ) (x : List ℕ) → ordering_then (nat_cmp a 0) (slice_cmp nat_cmp (x ++ 0 ∷ []) []) ≡ Greater
above_none zero [] = refl
above_none zero (c ∷ x) = refl
above_none (suc a) x = let e : Greater ≡ nat_cmp (suc a) 0 = nat_cmp_is (suc a) 0 Greater (omega arith) in rw (← e) refl

-- texts that are ended by a zero byte have the order of the texts
pub ended_order : (x y : List ℕ) → slice_cmp nat_cmp (ended x) (ended y) ≡ slice_cmp nat_cmp x y
ended_order [] [] = refl
ended_order [] (b ∷ y) = below_more b y
ended_order (a ∷ x) [] = above_none a x
ended_order (a ∷ x) (b ∷ y) = ap (ordering_then (nat_cmp a b)) (ended_order x y)

-- what follows from both answers of a test
pub match_turned : {T : Type 0} (r : Option T) (P P′ : Type 0) (Q Q′ : T → Type 0) → (P → P′) → ((x : T) → Q x → Q′ x) → MatchOption r P Q → MatchOption r P′ Q′
match_turned None P P′ Q Q′ none some h = none h
match_turned (Some x) P P′ Q Q′ none some h = some x h

-- ---- the next row of the table is that behind the front, or there is none

module _ (table : ℕ) (front bound : List ℕ) (rows : Rows) where
  up : (rest : List ℕ) → is_below bound rest ≡ true → is_below ((table ∷ front) ++ bound) ((table ∷ front) ++ rest) ≡ true
  up rest above = ap is_lt (same_front (table ∷ front) bound rest) ∙ above

  pub none_behind : IsNextRow (table ∷ (front ++ bound)) rows None → IsNextBehind (table ∷ front) bound rows None
  none_behind next rest above = next ((table ∷ front) ++ rest) (record { table = refl; above = up rest above })

  pub passed_behind : (key row : List ℕ) → IsNextRow (table ∷ (front ++ bound)) rows (Some (key, row)) → ((z : List ℕ) → ¬ (key ≡ table ∷ (front ++ z))) → IsNextBehind (table ∷ front) bound rows None
  passed_behind key row next other rest above =
      next.2 ((table ∷ front) ++ rest) (record { table = refl; above = up rest above }) (beyond (table ∷ front) bound rest key next.0.above other)

  pub found_behind : (key row rest : List ℕ) → IsNextRow (table ∷ (front ++ bound)) rows (Some (key, row)) → key ≡ table ∷ (front ++ rest) → IsNextBehind (table ∷ front) bound rows (Some (rest, row))
  found_behind key row rest next is = (
    sym (ap is_lt (same_front (table ∷ front) bound rest)) ∙ ap (is_below (table ∷ (front ++ bound))) (sym is) ∙ next.0.above,
    ap rows (sym is) ∙ next.1,
    λ other above below.
        next.2 ((table ∷ front) ++ other) (record { table = refl; above = up other above })
        (ap (is_below ((table ∷ front) ++ other)) is ∙ ap is_lt (same_front (table ∷ front) other rest) ∙ below),
  )

-- ---- by the last parts

-- how last parts are spelled
pub record IsSpelling (IsPart : List ℕ → Type 0) (spell : List ℕ → List ℕ) : Type 0 where
  pub order : (x y : List ℕ) → slice_cmp nat_cmp (spell x) (spell y) ≡ slice_cmp nat_cmp x y
  pub some : (part : List ℕ) → IsPart part → is_below [] (spell part) ≡ true

pub tags_spelled : IsSpelling IsTag ended
tags_spelled = record { order = ended_order; some = λ part is. some part }
  where
    some : (part : List ℕ) → is_below [] (ended part) ≡ true
    some [] = refl
    some (b ∷ part) = refl

pub digests_spelled : IsSpelling IsDigest (λ d. d)
digests_spelled = record { order = λ x y. refl; some = λ part is. ap (is_below []) is.is }

module _ (IsPart : List ℕ → Type 0) (spell : List ℕ → List ℕ) (spelling : IsSpelling IsPart spell) where
  bound_below : (after : Option (List ℕ)) (part : List ℕ) → IsPart part → is_below (bound_of spell after) (spell part) ≡ is_behind after part
  bound_below None part is = spelling.some part is
  bound_below (Some a) part is = ap is_lt (spelling.order a part)

  pub next_none : {A : Type 0} (front : List ℕ) (last spelled : A → List ℕ) (after : Option (List ℕ)) (rows : Rows) → IsNextBehind front (bound_of spell after) rows None → IsNextAt IsPart (λ part. front ++ spell part) last spelled after rows None
  next_none front last spelled after rows next part is above = next (spell part) (bound_below after part is ∙ above)

  pub next_some : {A : Type 0} (front : List ℕ) (last spelled : A → List ℕ) (after : Option (List ℕ)) (rows : Rows) (rest row : List ℕ) (x : A) → IsNextBehind front (bound_of spell after) rows (Some (rest, row)) → IsPart (last x) → spell (last x) ≡ rest → spelled x ≡ row → IsNextAt IsPart (λ part. front ++ spell part) last spelled after rows (Some x)
  next_some front last spelled after rows rest row x next is part_is row_is = (
    sym (bound_below after (last x) is) ∙ ap (is_below (bound_of spell after)) part_is ∙ next.0,
    ap (λ (t : List ℕ). rows (front ++ t)) part_is ∙ next.1 ∙ ap Some (sym row_is),
    λ part part_fits above below.
        next.2 (spell part) (bound_below after part part_fits ∙ above) (ap (is_below (spell part)) (sym part_is) ∙ ap is_lt (spelling.order part (last x)) ∙ below),
  )

-- ---- the fields behind a front

-- behind a front that is spelled as the first field there are the other fields
pub behind_first : (f : Field) (fs : List Field) (front rest : List ℕ) → Spells f front → AreFields (f ∷ fs) (front ++ rest) → AreFields fs rest
behind_first f fs front rest spells are =
    let same : are.1 ≡ rest = same_Some are.1 rest (sym ((strips f).again are.0 are.1 are.2) ∙ ap (strip f) (sym are.4) ∙ (strips f).again front rest spells) in
    subst (AreFields fs) same are.3

-- the last parts of keys
pub link_part : (name part row : List ℕ) → IsName name → Fits (7 ∷ (ended name ++ part)) row → IsDigest part
unfolding lines_of
link_part name part row is h =
    elim (in_table 7 (ended name ++ part) row lines h) [
      | inl f ↦ one_digest part (behind_first field.EndedName (field.Digest ∷ []) (ended name) part (name, is, refl) f.key_fields)
      | inr e ↦ absurd e
    ]

pub manifest_part : (name part row : List ℕ) → IsName name → Fits (2 ∷ (ended name ++ part)) row → IsDigest part
unfolding lines_of
manifest_part name part row is h =
    elim (in_table 2 (ended name ++ part) row lines h) [
      | inl f ↦ one_digest part (behind_first field.EndedName (field.Digest ∷ []) (ended name) part (name, is, refl) f.key_fields)
      | inr e ↦ absurd e
    ]

pub tag_part : (name part row : List ℕ) → IsName name → Fits (4 ∷ (ended name ++ part)) row → IsEndedTag part
unfolding lines_of
tag_part name part row is h =
    elim (in_table 4 (ended name ++ part) row lines h) [
      | inl f ↦ ended_tag part (behind_first field.EndedName (field.EndedTag ∷ []) (ended name) part (name, is, refl) f.key_fields)
      | inr e ↦ absurd e
    ]
  where
    ended_tag : (part : List ℕ) → AreFields (field.EndedTag ∷ []) part → IsEndedTag part
    ended_tag part a = record { tag = a.2.0; is_tag = a.2.1; is = one_field field.EndedTag part a ∙ a.2.2 }

pair_part : (name first part : List ℕ) → IsName name → IsDigest first → AreFields (field.EndedName ∷ field.Digest ∷ field.Digest ∷ []) ((ended name ++ first) ++ part) → IsDigest part
pair_part name first part is digest are =
    one_digest part
    (behind_first field.Digest (field.Digest ∷ []) first part digest
    (behind_first field.EndedName (field.Digest ∷ field.Digest ∷ []) (ended name) (first ++ part) (name, is, refl)
    (subst (AreFields (field.EndedName ∷ field.Digest ∷ field.Digest ∷ [])) (append_assoc (ended name) first part) are)))

pub named_part : (name manifest part row : List ℕ) → IsName name → IsDigest manifest → Fits (5 ∷ ((ended name ++ manifest) ++ part)) row → IsDigest part
unfolding lines_of
named_part name manifest part row is digest h =
    elim (in_table 5 ((ended name ++ manifest) ++ part) row lines h) [ inl f ↦ pair_part name manifest part is digest f.key_fields | inr e ↦ absurd e ]

pub child_part : (name parent part row : List ℕ) → IsName name → IsDigest parent → Fits (6 ∷ ((ended name ++ parent) ++ part)) row → IsDigest part
unfolding lines_of
child_part name parent part row is digest h =
    elim (in_table 6 ((ended name ++ parent) ++ part) row lines h) [ inl f ↦ pair_part name parent part is digest f.key_fields | inr e ↦ absurd e ]
