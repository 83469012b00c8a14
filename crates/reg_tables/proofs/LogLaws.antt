-- An entry more in the journal.
use Rattle.std.proofs.Common.{◌≡◌, ℕ, ◌+◌, ◌≤◌, Bool, true, false, cond, List, [], ◌∷◌, ◌++◌, length, length-append, Some, None, refl, ap, sym, ◌∙◌, arith}
use Rattle.std.specs.Int.{w64, from_be_bytes}
use Rattle.std.proofs.lemmas.Bool.{true≢false}
use Rattle.std.proofs.lemmas.Nat.{from_be_bytes-to_be_bytes_8}
use Rattle.reg_journal.specs.declared.entry.Entry.{Entry}
use Rattle.reg_journal.specs.Changes.{is_same}
use Rattle.reg_journal.specs.Past.{Past}
use Rattle.reg_journal.specs.Spelling.{number_field, entry_spelled}
use Rattle.keeper_api.specs.Rows as keys
use Rattle.keeper_api.specs.Rows.{Rows, with_row}
use Rattle.reg_tables.specs.Derived.{row_of, with_past, entry_row, last_row, journal_limit}
use Rattle.reg_tables.specs.InnerItems.{key_of, is_proper}
use Rattle.reg_tables.specs.InnerSteps.{logged}
use Rattle.reg_tables.specs.Items.{Item, last_number, entry_at, manifest_at, tag_at, named_at, child_at, link_at, blob_at, none_at, elsewhere, item_of}
use Rattle.reg_tables.specs.Keys.{last_number_key, entry_key}
use Rattle.reg_tables.proofs.ItemLaws.{spelled}
use Rattle.reg_tables.proofs.PendingLaws.{same_key, at_itself}
use Rattle.reg_tables.proofs.StepLaws.{at_one, other_one}

-- numbers of entries are spelled apart
pub same_number : (m n : ℕ) → m ≤ journal_limit → n ≤ journal_limit → number_field m ≡ number_field n → m ≡ n
same_number m n m_few n_few e = sym (from_be_bytes-to_be_bytes_8 m (omega (arith, m_few))) ∙ ap (from_be_bytes w64) e ∙ from_be_bytes-to_be_bytes_8 n (omega (arith, n_few))

entry_here : (k number : ℕ) (es : List Entry) (e : Entry) → number ≡ k + length es → number ≤ journal_limit → entry_row k (es ++ e ∷ []) (number_field number) ≡ Some (entry_spelled e)
entry_here k number [] e is few =
    let same : k ≡ number = omega (arith, is) in
    ap (λ (n : ℕ). cond (is_same (number_field n) (number_field number)) (Some (entry_spelled e)) None) same ∙ at_one (number_field number) (Some (entry_spelled e)) None
entry_here k number (x ∷ xs) e is few =
    let k_few : k ≤ journal_limit = omega (arith, is, few) in
    other_one (number_field k) (number_field number) (Some (entry_spelled x)) (entry_row (k + 1) (xs ++ e ∷ []) (number_field number)) (λ same. omega (arith, is, same_number k number k_few few same))
    ∙ entry_here (k + 1) number xs e (omega (arith, is)) few

entry_there : (k number : ℕ) (es : List Entry) (e : Entry) (s : List ℕ) → number ≡ k + length es → (number_field number ≡ s → ⊥) → entry_row k (es ++ e ∷ []) s ≡ entry_row k es s
entry_there k number [] e s is far =
    let same : number ≡ k = omega (arith, is) in
    other_one (number_field k) s (Some (entry_spelled e)) None (λ at. far (ap number_field same ∙ at))
entry_there k number (x ∷ xs) e s is far = ap (cond (is_same (number_field k) s) (Some (entry_spelled x))) (entry_there (k + 1) number xs e s (omega (arith, is)) far)

last_more : (es : List Entry) (e : Entry) → last_row (es ++ e ∷ []) ≡ Some (number_field (length es + 1))
last_more [] e = refl
last_more (x ∷ xs) e =
    let more : length (xs ++ e ∷ []) + 1 ≡ length (x ∷ xs) + 1 = omega (arith, length-append xs (e ∷ [])) in
    ap (λ (n : ℕ). Some (number_field n)) more

pub log_step : (past : Past) (base : Rows) (number : ℕ) (entry : Entry) → number ≡ length past.entries + 1 → number ≤ journal_limit
    → with_row (with_row (with_past past base) (entry_key number) (Some (entry_spelled entry))) last_number_key (Some (number_field number)) ≡ with_past (logged entry past) base
log_step past base number entry is few = λ i q. at q i
  where
    next : number ≡ 1 + length past.entries
    next = omega (arith, is)

    at : (q : List ℕ) → with_row (with_row (with_past past base) (entry_key number) (Some (entry_spelled entry))) last_number_key (Some (number_field number)) q ≡ with_past (logged entry past) base q
    at q = by_last (keys.is_at last_number_key q) refl
      where
        spelled_so : (item : Item) → is_proper item ≡ true → item_of q ≡ item → q ≡ key_of item
        spelled_so item proper same = spelled q (ap is_proper same ∙ proper) ∙ ap key_of same

        others : (keys.is_at last_number_key q ≡ false) → (keys.is_at (entry_key number) q ≡ false) → (item : Item) → item_of q ≡ item → row_of past item (base q) ≡ row_of (logged entry past) item (base q)
        others l e last_number same = absurd (true≢false (sym (ap (keys.is_at last_number_key) (spelled_so last_number refl same) ∙ at_itself last_number_key) ∙ l))
        others l e (entry_at n) same =
            sym (entry_there 1 number past.entries entry n next
            (λ at_n. true≢false (sym (ap (keys.is_at (entry_key number)) (spelled_so (entry_at n) refl same ∙ ap (λ (t : List ℕ). 1 ∷ t) (sym at_n)) ∙ at_itself (entry_key number)) ∙ e)))
        others l e (manifest_at of d) same = refl
        others l e (tag_at of t) same = refl
        others l e (named_at of m d) same = refl
        others l e (child_at of m d) same = refl
        others l e (link_at of d) same = refl
        others l e (blob_at d) same = refl
        others l e none_at same = refl
        others l e elsewhere same = refl

        by_entry : (keys.is_at last_number_key q ≡ false) → (b : Bool) → keys.is_at (entry_key number) q ≡ b → cond b (Some (entry_spelled entry)) (row_of past (item_of q) (base q)) ≡ row_of (logged entry past) (item_of q) (base q)
        by_entry l true e =
            sym (ap (λ (k : List ℕ). row_of (logged entry past) (item_of k) (base k)) (sym (same_key (entry_key number) q e)) ∙ entry_here 1 number past.entries entry next few)
        by_entry l false e = others l e (item_of q) refl

        by_last : (b : Bool) → keys.is_at last_number_key q ≡ b → cond b (Some (number_field number)) (with_row (with_past past base) (entry_key number) (Some (entry_spelled entry)) q) ≡ row_of (logged entry past) (item_of q) (base q)
        by_last true e =
            ap (λ (n : ℕ). Some (number_field n)) is
            ∙ sym (ap (λ (k : List ℕ). row_of (logged entry past) (item_of k) (base k)) (sym (same_key last_number_key q e)) ∙ last_more past.entries entry)
        by_last false e = by_entry e (keys.is_at (entry_key number) q) refl
