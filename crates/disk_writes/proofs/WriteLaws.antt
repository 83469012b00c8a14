-- Changes that follow each other, and pieces that follow each other.
use Rattle.std.proofs.Common.{◌≡◌, ℕ, zero, suc, List, ◌++◌, Result, Ok, Err, ⊎_elim, refl, ap, sym, subst, ◌∙◌, append_assoc, append-nil}
use Rattle.std.specs.List.{repeat}
use Rattle.depot_api.specs.Changes.{with_lent, with_shelved, with_placed, Places, StaysAt}
use Rattle.depot_api.specs.declared.depot.Unplaced.{Unplaced}
use Rattle.depot_api.specs.declared.depot.Unplaced.TheVariants as unplaced
use Rattle.depot_api.specs.Holdings.{Holding}
use Rattle.depot_api.specs.Stages.{Staged}
use Rattle.depot_api.proofs.ChangeLaws.{stays_lent, stays_shelved, stays_placed}

abbrev Path : Type 0
Path = List (List ℕ)

pub stays_same : (q : Path) (before now : Holding) → now ≡ before → StaysAt q before now
stays_same q before now e = subst (StaysAt q before) (sym e) (record { tells = refl; file = refl; loan = refl })

pub stays_then : (q : Path) (before between now : Holding) → StaysAt q before between → StaysAt q between now → StaysAt q before now
stays_then q before between now a b =
    record { tells = b.tells ∙ a.tells; file = b.file ∙ a.file; loan = b.loan ∙ a.loan }

pub lent_apart : (p q : Path) (before now : Holding) → now ≡ with_lent before p → ¬ (p ≡ q) → StaysAt q before now
lent_apart p q before now e apart = subst (StaysAt q before) (sym e) (stays_lent before p q apart)

-- what was staged at p is put back
pub shelved_apart : (p q : Path) (before now : Holding) (staged : Staged) → staged.path ≡ p → now ≡ with_shelved before staged → ¬ (p ≡ q) → StaysAt q before now
shelved_apart p q before now staged at e apart =
    subst (StaysAt q before) (sym e) (stays_shelved before staged q (λ same. apart (sym at ∙ same)))

-- what was staged at p was to be placed at `to`
pub places_apart : {A S : Type 0} (p to q : Path) (before now : Holding) (staged : Staged) (result : Result A (Unplaced S)) → staged.path ≡ p → Places staged to result before now → ¬ (p ≡ q) → ¬ (to ≡ q) → StaysAt q before now
places_apart p to q before now staged (Ok size) at e apart apart_to =
    subst (StaysAt q before) (sym e) (stays_placed before staged to q (λ same. apart (sym at ∙ same)) apart_to)
places_apart p to q before now staged (Err unplaced.Failed) at e apart apart_to =
    ⊎_elim
    (λ back. shelved_apart p q before now staged at back apart)
    (λ placed. subst (StaysAt q before) (sym placed) (stays_placed before staged to q (λ same. apart (sym at ∙ same)) apart_to))
    e
places_apart p to q before now staged (Err (unplaced.NoMemory stage)) at e apart apart_to = stays_same q before now e

repeat_more : (n : ℕ) (xs : List ℕ) → repeat n xs ++ xs ≡ repeat (suc n) xs
repeat_more zero xs = sym (append-nil xs)
repeat_more (suc n) xs = append_assoc xs (repeat n xs) xs ∙ ap (λ l. xs ++ l) (repeat_more n xs)

-- a piece more
pub grown_more : (front now next piece : List ℕ) (n : ℕ) → now ≡ front ++ repeat n piece → next ≡ now ++ piece → next ≡ front ++ repeat (suc n) piece
grown_more front now next piece n is more =
    more ∙ ap (λ l. l ++ piece) is ∙ append_assoc front (repeat n piece) piece ∙ ap (λ l. front ++ l) (repeat_more n piece)
