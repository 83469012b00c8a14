-- Loans that end.
use Rattle.std.proofs.Common.{◌≡◌, ℕ, Bool, true, false, cond, List, refl, ap, sym, ◌∙◌}
use Rattle.std.proofs.lemmas.Bool.{cases_Bool}
use Rattle.std.proofs.Common.{⊎_elim}
use Rattle.depot_api.specs.Changes.{with_loan, with_shelved}
use Rattle.depot_api.specs.Holdings.{Holding}
use Rattle.depot_api.specs.Paths.{is_at}
use Rattle.depot_api.proofs.SlotLaws.{same_at, same_held}
use Rattle.depot_files.specs.Silence.{untold, untold_staged}
use Rattle.depot_files.specs.declared.loans.Loans.{Loans}

abbrev Path : Type 0
Path = List (List ℕ)

-- a loan that ends where there is none changes nothing
none_ended : (h : Holding) (p : Path) → h.lent p ≡ false → with_loan h p false ≡ h
none_ended h p none = same_held (with_loan h p false) h refl (λ q. refl) (λ q. by q (is_at p q) refl)
  where
    by : (q : Path) (c : Bool) → c ≡ is_at p q → cond c false (h.lent q) ≡ h.lent q
    by q true at = sym none ∙ ap h.lent (same_at p q (sym at))
    by q false at = refl

-- a loan that begins and ends leaves what was there
pub loan_undone : (h : Holding) (p : Path) → h.lent p ≡ false → with_loan (with_loan h p true) p false ≡ h
loan_undone h p none =
    same_held (with_loan (with_loan h p true) p false) (with_loan h p false) refl (λ q. refl) (λ q. again (is_at p q) (h.lent q))
    ∙ none_ended h p none
  where
    again : (c : Bool) (x : Bool) → cond c false (cond c true x) ≡ cond c false x
    again true x = refl
    again false x = refl

-- what is put back where no file is told ends its loan, where there is one
pub shelved_untold : (loans : Loans) (p : Path) (n : ℕ) → with_loan (untold loans) p false ≡ with_shelved (untold loans) (untold_staged p n)
shelved_untold loans p n =
    ⊎_elim
    (λ lent. ap (λ c. cond c (with_loan (untold loans) p false) (untold loans)) (sym lent))
    (λ none. none_ended (untold loans) p none ∙ ap (λ c. cond c (with_loan (untold loans) p false) (untold loans)) (sym none))
    (cases_Bool ((untold loans).lent p))
