-- Entries behind a journal, with their rows.
use Rattle.std.specs.Int.{w64, from_be_bytes}
use Rattle.std.proofs.Common.{◌≡◌, ℕ, ◌+◌, ◌<◌, ◌^◌, Bool, true, false, cond, List, [], ◌∷◌, ◌++◌, length, length-append, take, get_or, append_assoc, append-nil, add-one, length-take-le, Option, Some, None, refl, ap, sym, ◌∙◌, arith}
use Rattle.std.specs.Prelude.{◌≤◌, ◌||◌, IsTrue}
use Rattle.std.specs.List.{list_any}
use Rattle.std.proofs.Math.Seq.{take-suc}
use Rattle.std.proofs.lemmas.List.Folds.{list_any-append}
use Rattle.std.proofs.lemmas.Nat.{from_be_bytes-to_be_bytes_8}
use Rattle.std.proofs.lemmas.Option.{none-some, same_Some}
use Rattle.reg_journal.specs.declared.entry.Entry.{Entry}
use Rattle.reg_journal.specs.Changes.{apply, replay}
use Rattle.reg_journal.specs.Past.{Past, nothing, next_number}
use Rattle.reg_journal.specs.Spelling.{number_field}
use Rattle.reg_journal.proofs.JournalLaws.{replay_append, entries_are}
use Rattle.keeper_api.specs.declared.change.Change.{Change}
use Rattle.keeper_api.specs.declared.change.Change.TheVariants as change
use Rattle.keeper_api.specs.Changes.{after, after_one, with_changes}
use Rattle.keeper_api.specs.Rows.{Rows, Kept}
use Rattle.reg_tables.specs.Derived.{with_past, rows_of, last_row, takes, without_taken, IsDerived, journal_limit}
use Rattle.reg_tables.specs.Keys.{last_number_key}
use Rattle.reg_tables.specs.Writing.{LeavesDerived}
use Rattle.reg_tables.proofs.DerivedLaws.{told_last}
use Rattle.reg_tables.proofs.EntryLaws.{beside_step}

-- ---- the last number

spelled_once : (m n : ℕ) → m < 2 ^ 64 → n < 2 ^ 64 → number_field m ≡ number_field n → m ≡ n
spelled_once m n m_few n_few e = sym (from_be_bytes-to_be_bytes_8 m m_few) ∙ ap (from_be_bytes w64) e ∙ from_be_bytes-to_be_bytes_8 n n_few

last_of : (journal : List Entry) (row : List ℕ) (n : ℕ) → length journal ≤ journal_limit → n < 2 ^ 64 → number_field n ≡ row → Some row ≡ last_row journal → n ≡ length journal
last_of [] row n few small spelled is = absurd (none-some row (sym is))
last_of (e ∷ es) row n few small spelled is =
    spelled_once n (length es + 1) small (omega (arith, few)) (spelled ∙ same_Some row _ is) ∙ omega arith

none_of : (journal : List Entry) → None ≡ last_row journal → 0 ≡ length journal
none_of [] is = refl
none_of (e ∷ es) is = absurd (none-some _ is)

pub last_found : (journal : List Entry) (rows : Rows) (row : List ℕ) (n : ℕ) → n < 2 ^ 64 → number_field n ≡ row → Some row ≡ rows last_number_key → IsDerived journal rows → n ≡ length journal
last_found journal rows row n small spelled is derived = last_of journal row n derived.few small spelled (is ∙ told_last journal rows derived)

pub none_found : (journal : List Entry) (rows : Rows) → None ≡ rows last_number_key → IsDerived journal rows → 0 ≡ length journal
none_found journal rows is derived = none_of journal (is ∙ told_last journal rows derived)

-- ---- one entry more

one_more : (journal es : List Entry) (e : Entry) → apply (replay (journal ++ es)) e ≡ replay (journal ++ (es ++ e ∷ []))
one_more journal es e = sym (ap replay (sym (append_assoc journal es (e ∷ []))) ∙ replay_append nothing (journal ++ es) (e ∷ []))

taken_more : (es : List Entry) (e : Entry) (others : Rows) → without_taken (e ∷ []) (without_taken es others) ≡ without_taken (es ++ e ∷ []) others
taken_more es e others = λ i key. at key i
  where
    by : (a b : Bool) (row : Option (List ℕ)) → cond b None (cond a None row) ≡ cond (a || b) None row
    by true true row = refl
    by true false row = refl
    by false true row = refl
    by false false row = refl

    at : (key : List ℕ) → without_taken (e ∷ []) (without_taken es others) key ≡ without_taken (es ++ e ∷ []) others key
    at key =
        by (list_any (λ (x : Entry). takes x.what key) es) (list_any (λ (x : Entry). takes x.what key) (e ∷ [])) (others key)
        ∙ ap (λ b. cond b None (others key)) (sym (list_any-append (λ (x : Entry). takes x.what key) es (e ∷ [])))

pub rows_more : (journal es : List Entry) (e : Entry) (others : Rows) → with_past (apply (replay (journal ++ es)) e) (without_taken (e ∷ []) (without_taken es others)) ≡ rows_of (journal ++ (es ++ e ∷ [])) (without_taken (es ++ e ∷ []) others)
rows_more journal es e others =
    ap (λ (p : Past). with_past p (without_taken (e ∷ []) (without_taken es others))) (one_more journal es e)
    ∙ ap (with_past (replay (journal ++ (es ++ e ∷ [])))) (taken_more es e others)

pub rows_next : (journal es : List Entry) (i : ℕ) (e : Entry) (others : Rows) → i < length es → e ≡ get_or es i e
    → with_past (apply (replay (journal ++ take i es)) e) (without_taken (e ∷ []) (without_taken (take i es) others)) ≡ rows_of (journal ++ take (i + 1) es) (without_taken (take (i + 1) es) others)
rows_next journal es i e others within is =
    rows_more journal (take i es) e others
    ∙ ap (λ (xs : List Entry). rows_of (journal ++ xs) (without_taken xs others)) (sym (ap (λ n. take n es) (add-one i) ∙ take-suc es i e within ∙ ap (λ (x : Entry). take i es ++ x ∷ []) (sym is)))

-- the number that comes next
pub number_next : (journal es : List Entry) (i last : ℕ) → last ≡ length journal → i < length es → last + i + 1 ≡ next_number (replay (journal ++ take i es))
number_next journal es i last is within =
    sym (ap (λ (xs : List Entry). length xs + 1) (entries_are (journal ++ take i es)) ∙ ap (λ n. n + 1) (length-append journal (take i es) ∙ ap (λ n. length journal + n) (length-take-le i es (omega (arith, within)))) ∙ ap (λ n. n + i + 1) (sym is))

-- no entry
pub rows_none : (journal : List Entry) (others : Rows) → rows_of journal others ≡ rows_of (journal ++ []) (without_taken [] others)
rows_none journal others = ap (λ (xs : List Entry). rows_of xs others) (sym (append-nil journal))

-- ---- the changes that are handed in

pub left_derived : (past : Past) (base : Rows) (changes : List Change) → LeavesDerived changes → after (with_past past base) changes ≡ with_past past (after base changes)
left_derived past base [] all = refl
left_derived past base (change.Put key row ∷ cs) all =
    ap (λ (r : Rows). after r cs) (beside_step past base key (Some row) all.0) ∙ left_derived past (after_one base (change.Put key row)) cs all.1
left_derived past base (change.Drop key ∷ cs) all =
    ap (λ (r : Rows). after r cs) (beside_step past base key None all.0) ∙ left_derived past (after_one base (change.Drop key)) cs all.1

pub handed_in : (journal : List Entry) (rows : Rows) (changes : List Change) → IsDerived journal rows → LeavesDerived changes → after rows changes ≡ rows_of journal (after rows changes)
handed_in journal rows changes derived all = ap (λ (r : Rows). after r changes) derived.derived ∙ left_derived (replay journal) rows changes all

-- what a commit left, where the rows are told
pub committed : (first old new : Kept) (changes : List Change) → old ≡ first → new ≡ with_changes old changes → IsTrue first.tells → new.rows ≡ after first.rows changes
committed first old new changes same made tells =
    ap (λ (k : Kept). k.rows) (made ∙ ap (λ (k : Kept). with_changes k changes) same) ∙ ap (λ b. cond b (after first.rows changes) first.rows) tells
