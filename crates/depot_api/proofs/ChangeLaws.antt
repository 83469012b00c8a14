-- What is true of every change of what a depot holds.
use Rattle.std.proofs.Common.{◌≡◌, ℕ, Bool, true, false, cond, List, Option, Some, None, refl, ap, sym, ◌∙◌, true≢false}
use Rattle.std.specs.Prelude.{IsTrue}
use Rattle.std.proofs.lemmas.Bool.{cond_both}
use Rattle.depot_api.specs.Paths.{is_at}
use Rattle.depot_api.specs.Files.{with_at}
use Rattle.depot_api.specs.Holdings.{Holding}
use Rattle.depot_api.specs.Stages.{Staged}
use Rattle.depot_api.specs.Changes.{with_file, with_loan, with_put, with_lent, with_shelved, with_placed, bytes_or, StaysAt, HidesLoans}
use Rattle.depot_api.proofs.SlotLaws.{same_at}

abbrev Path : Type 0
Path = List (List ℕ)

-- what is changed at p stays at another path
stays_apart : {X : Type 0} (p q : Path) (x y : X) → ¬ (p ≡ q) → cond (is_at p q) x y ≡ y
stays_apart p q x y apart = by (is_at p q) refl
  where
    by : (c : Bool) → c ≡ is_at p q → cond c x y ≡ y
    by true at = absurd (apart (same_at p q (sym at)))
    by false at = refl

file_stays : (held : Holding) (p q : Path) (w : Option (List ℕ)) → ¬ (p ≡ q) → (with_file held p w).files q ≡ held.files q
file_stays held p q w apart =
    cond_both held.tells (with_at held.files p w) held.files (λ files. files q ≡ held.files q) (λ _. stays_apart p q w (held.files q) apart) (λ _. refl)

pub stays_put : (held : Holding) (p q : Path) (bytes : List ℕ) → ¬ (p ≡ q) → StaysAt q held (with_put held p bytes)
stays_put held p q bytes apart =
    record { tells = refl; file = file_stays held p q (Some bytes) apart; loan = stays_apart p q false (held.lent q) apart }

pub stays_removed : (held : Holding) (p q : Path) → ¬ (p ≡ q) → StaysAt q held (with_file held p None)
stays_removed held p q apart = record { tells = refl; file = file_stays held p q None apart; loan = refl }

pub stays_lent : (held : Holding) (p q : Path) → ¬ (p ≡ q) → StaysAt q held (with_lent held p)
stays_lent held p q apart =
    record { tells = refl; file = file_stays held p q None apart; loan = stays_apart p q true (held.lent q) apart }

pub stays_shelved : (held : Holding) (staged : Staged) (q : Path) → ¬ (staged.path ≡ q) → StaysAt q held (with_shelved held staged)
stays_shelved held staged q apart =
    cond_both (held.lent staged.path) (with_put held staged.path staged.bytes) held (StaysAt q held) (λ _. stays_put held staged.path q staged.bytes apart) (λ _. record { tells = refl; file = refl; loan = refl })

pub stays_placed : (held : Holding) (staged : Staged) (to q : Path) → ¬ (staged.path ≡ q) → ¬ (to ≡ q) → StaysAt q held (with_placed held staged to)
stays_placed held staged to q from apart =
    let put = stays_put (with_loan held staged.path false) to q (bytes_or staged.bytes held.files to) apart in
    record { tells = put.tells; file = put.file; loan = put.loan ∙ stays_apart staged.path q false (held.lent q) from }

-- a path that is lent after a change has no file after it
hides_at : (held : Holding) (p q : Path) (w : Option (List ℕ)) (loan : Bool) → (IsTrue loan → w ≡ None) → HidesLoans held → IsTrue held.tells → IsTrue (cond (is_at p q) loan (held.lent q)) → (with_file held p w).files q ≡ None
hides_at held p q w loan new h tells lent =
    ap (λ t. cond t (with_at held.files p w) held.files q) tells ∙ by (is_at p q) lent
  where
    by : (c : Bool) → IsTrue (cond c loan (held.lent q)) → cond c w (held.files q) ≡ None
    by true l = new l
    by false l = h tells q l

pub hides_put : (held : Holding) (p : Path) (bytes : List ℕ) → HidesLoans held → HidesLoans (with_put held p bytes)
hides_put held p bytes h tells q lent =
    hides_at held p q (Some bytes) false (λ l. absurd (true≢false (sym l))) h tells lent

pub hides_lent : (held : Holding) (p : Path) → HidesLoans held → HidesLoans (with_lent held p)
hides_lent held p h tells q lent = hides_at held p q None true (λ l. refl) h tells lent

pub hides_removed : (held : Holding) (p : Path) → HidesLoans held → HidesLoans (with_file held p None)
hides_removed held p h tells q lent =
    ap (λ t. cond t (with_at held.files p None) held.files q) tells ∙ by (is_at p q)
  where
    by : (c : Bool) → cond c None (held.files q) ≡ None
    by true = refl
    by false = h tells q lent

pub hides_shelved : (held : Holding) (staged : Staged) → HidesLoans held → HidesLoans (with_shelved held staged)
hides_shelved held staged h =
    cond_both (held.lent staged.path) (with_put held staged.path staged.bytes) held HidesLoans (λ _. hides_put held staged.path staged.bytes h) (λ _. h)

hides_ended : (held : Holding) (p : Path) → HidesLoans held → HidesLoans (with_loan held p false)
hides_ended held p h tells q lent = by (is_at p q) lent
  where
    by : (c : Bool) → IsTrue (cond c false (held.lent q)) → held.files q ≡ None
    by true l = absurd (true≢false (sym l))
    by false l = h tells q l

pub hides_placed : (held : Holding) (staged : Staged) (to : Path) → HidesLoans held → HidesLoans (with_placed held staged to)
hides_placed held staged to h =
    hides_put (with_loan held staged.path false) to (bytes_or staged.bytes held.files to) (hides_ended held staged.path h)
