-- Rows that are dropped one behind another.
use Rattle.std.proofs.Common.{◌≡◌, ℕ, ◌+◌, ◌<◌, length, take, get_or, add-one, Bool, true, false, cond, List, [], ◌∷◌, ◌++◌, Option, None, refl, ap, sym, ◌∙◌}
use Rattle.std.specs.Prelude.{◌||◌}
use Rattle.std.specs.List.{list_any}
use Rattle.std.proofs.Math.Seq.{take-suc}
use Rattle.std.proofs.lemmas.List.Folds.{list_any-append}
use Rattle.keeper_api.specs.Rows as keys
use Rattle.keeper_api.specs.Rows.{Rows, with_row}
use Rattle.reg_tables.specs.InnerPending.{without_parts}
use Rattle.reg_tables.proofs.GatherLaws.{or_false}

both : (a b : Bool) (row : Option (List ℕ)) → cond b None (cond a None row) ≡ cond (a || b) None row
both true true row = refl
both true false row = refl
both false true row = refl
both false false row = refl

pub one_less : (front : List ℕ) (parts : List (List ℕ)) (part : List ℕ) (rows : Rows) → with_row (without_parts front parts rows) (front ++ part) None ≡ without_parts front (parts ++ part ∷ []) rows
one_less front parts part rows = λ i key. at key i
  where
    at : (key : List ℕ) → with_row (without_parts front parts rows) (front ++ part) None key ≡ without_parts front (parts ++ part ∷ []) rows key
    at key =
        both (list_any (λ p. keys.is_at (front ++ p) key) parts) (keys.is_at (front ++ part) key) (rows key)
        ∙ ap (λ b. cond (list_any (λ p. keys.is_at (front ++ p) key) parts || b) None (rows key)) (sym (or_false (keys.is_at (front ++ part) key)))
        ∙ ap (λ b. cond b None (rows key)) (sym (list_any-append (λ p. keys.is_at (front ++ p) key) parts (part ∷ [])))

pub parts_next : (front : List ℕ) (parts : List (List ℕ)) (i : ℕ) (part : List ℕ) (rows : Rows) → i < length parts → part ≡ get_or parts i part → with_row (without_parts front (take i parts) rows) (front ++ part) None ≡ without_parts front (take (i + 1) parts) rows
parts_next front parts i part rows within is =
    one_less front (take i parts) part rows
    ∙ ap (λ (ps : List (List ℕ)). without_parts front ps rows) (sym (ap (λ n. take n parts) (add-one i) ∙ take-suc parts i part within ∙ ap (λ (p : List ℕ). take i parts ++ p ∷ []) (sym is)))
