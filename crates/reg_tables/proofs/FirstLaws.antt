-- The first row of a table, and of all.
use Rattle.std.proofs.Common.{◌≡◌, ℕ, ◌+◌, ◌≤◌, true, List, [], ◌∷◌, Some, None, refl, sym, ap, subst, ◌∙◌, arith, inl, inr, Greater, Ordering}
use Rattle.std.specs.Prelude.{is_some, IsTrue}
use Rattle.std.specs.Ordering.{nat_cmp, is_lt, ordering_then}
use Rattle.std.specs.Cmp.{nat_cmp_is}
use Rattle.std.specs.Cmp.Lexicographic.{slice_cmp}
use Rattle.std.proofs.lemmas.Bool.{cases_lt}
use Rattle.keeper_api.specs.Rows.{Rows, IsAbove, is_below}
use Rattle.reg_tables.specs.Firsts.{IsOfTables, IsFirst}
use Rattle.reg_tables.specs.InnerFirsts.{AreEmptyBelow, IsFirstAt, IsFirstAbove}
use Rattle.reg_tables.proofs.NextLaws.{same_front}

-- a key of a table is above the one without bytes, or it is that one
above_bare : (table b : ℕ) (bytes : List ℕ) → IsAbove (table ∷ []) (table ∷ (b ∷ bytes))
above_bare table b bytes = record { table = refl; above = ap is_lt (same_front (table ∷ []) [] (b ∷ bytes)) }

pub bare_first : (table : ℕ) (rows : Rows) (row : List ℕ) → Some row ≡ rows (table ∷ []) → IsFirstAt table rows (Some (table ∷ []))
bare_first table rows row is = ([], refl, ap is_some (sym is), λ other below. absurd (none_below other below))
  where
    none_below : (other : List ℕ) → is_below (table ∷ other) (table ∷ []) ≡ true → ⊥
    none_below [] below = cc (sym (ap is_lt (same_front (table ∷ []) [] [])) ∙ below)
    none_below (b ∷ other) below = cc (sym (ap is_lt (same_front (table ∷ []) (b ∷ other) [])) ∙ below)

pub none_at_all : (table : ℕ) (rows : Rows) → None ≡ rows (table ∷ []) → IsFirstAbove (table ∷ []) rows None → IsFirstAt table rows None
none_at_all table rows bare above [] = sym bare
none_at_all table rows bare above (b ∷ bytes) = above (table ∷ (b ∷ bytes)) (above_bare table b bytes)

pub first_behind : (table : ℕ) (rows : Rows) (first : List ℕ) → None ≡ rows (table ∷ []) → IsFirstAbove (table ∷ []) rows (Some first) → IsFirstAt table rows (Some first)
first_behind table rows [] bare above = absurd (never above.0.above)
  where
    never : is_below (table ∷ []) [] ≡ true → ⊥
    never h = cc h
first_behind table rows (t ∷ bytes) bare above =
    (bytes, same, subst (λ (n : ℕ). IsTrue (is_some (rows (n ∷ bytes)))) above.0.table above.1, below)
  where
    same : t ∷ bytes ≡ table ∷ bytes
    same = ap (λ (n : ℕ). n ∷ bytes) above.0.table

    below : (other : List ℕ) → is_below (table ∷ other) (table ∷ bytes) ≡ true → rows (table ∷ other) ≡ None
    below [] h = sym bare
    below (b ∷ other) h = above.2 (table ∷ (b ∷ other)) (above_bare table b other) (subst (λ (k : List ℕ). is_below (table ∷ (b ∷ other)) k ≡ true) (sym same) h)

-- ---- all tables

pub one_more : (table : ℕ) (rows : Rows) → AreEmptyBelow table rows → IsFirstAt table rows None → AreEmptyBelow (table + 1) rows
one_more table rows below empty t bytes less =
    elim (cases_lt t table) [
      | inl l ↦ below t bytes l
      | inr most ↦ let same : table ≡ t = omega (arith, most, less) in subst (λ (n : ℕ). rows (n ∷ bytes) ≡ None) same (empty bytes)
    ]

pub all_empty : (rows : Rows) → AreEmptyBelow 17 rows → IsFirst rows None
all_empty rows below [] is = absurd is
all_empty rows below (t ∷ bytes) is = below t bytes (omega (arith, is))

lower_table : (t table : ℕ) (x y : List ℕ) → is_below (t ∷ x) (table ∷ y) ≡ true → t ≤ table
lower_table t table x y h = elim (cases_lt table t) [
  | inl more ↦ let greater : Greater ≡ nat_cmp t table = nat_cmp_is t table Greater more in absurd (never (subst (λ (o : Ordering). is_lt (ordering_then o (slice_cmp nat_cmp x y)) ≡ true) (sym greater) h))
  | inr most ↦ most
]
  where
    never : is_lt (ordering_then Greater (slice_cmp nat_cmp x y)) ≡ true → ⊥
    never e = cc e

pub first_of_all : (table : ℕ) (rows : Rows) (first : List ℕ) → table ≤ 16 → AreEmptyBelow table rows → IsFirstAt table rows (Some first) → IsFirst rows (Some first)
first_of_all table rows first few empty f =
    let bytes = f.0 in
    (subst IsOfTables (sym f.1) few, subst (λ (k : List ℕ). IsTrue (is_some (rows k))) (sym f.1) f.2, λ key of below. before key of (subst (λ (k : List ℕ). is_below key k ≡ true) f.1 below))
  where
    before : (key : List ℕ) → IsOfTables key → is_below key (table ∷ f.0) ≡ true → rows key ≡ None
    before [] of below = absurd of
    before (t ∷ x) of below = elim (cases_lt t table) [
      | inl l ↦ empty t x l
      | inr least ↦
          let same : table ≡ t = omega (arith, least, lower_table t table x f.0 below) in
          subst (λ (n : ℕ). is_below (n ∷ x) (table ∷ f.0) ≡ true → rows (n ∷ x) ≡ None) same (λ h. f.3 x h) below
    ]
