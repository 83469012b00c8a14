-- How blobs stand, by their rows.
use Rattle.std.proofs.Common.{◌≡◌, ℕ, cond, List, [], ◌∷◌, ◌++◌, take, drop, Option, Some, None, refl, ap, sym, ◌∙◌, arith}
use Rattle.std.specs.Option.{option_map}
use Rattle.std.proofs.lemmas.Option.{same_Some}
use Rattle.reg_names.specs.Digests.{IsDigest}
use Rattle.reg_journal.specs.declared.past.Condemned.{Condemned}
use Rattle.reg_journal.specs.Changes.{kept_size, with_one, with_condemned}
use Rattle.reg_journal.specs.Past.{Past}
use Rattle.reg_journal.specs.Spelling.{number_field}
use Rattle.keeper_api.specs.Rows.{Rows, with_row}
use Rattle.reg_tables.specs.Derived.{row_of, with_past, blob_row, or_zero}
use Rattle.reg_tables.specs.InnerSteps.{touched_blobs, marked, come, touched_row, marked_row, come_row}
use Rattle.reg_tables.specs.Items.{Item, last_number, entry_at, manifest_at, tag_at, named_at, child_at, link_at, blob_at, none_at, elsewhere}
use Rattle.reg_tables.specs.Keys.{blob_key}
use Rattle.reg_tables.specs.Spelled.{blob_spelled}
use Rattle.reg_tables.specs.declared.rows.BlobRow.{BlobRow}
use Rattle.reg_tables.specs.declared.rows.BlobRow.TheVariants.{Pending, Here, Doomed}
use Rattle.reg_tables.proofs.ItemLaws.{digest_own}
use Rattle.reg_tables.proofs.StepLaws.{only_at, at_one, other_one, one_is}
use Rattle.reg_tables.proofs.TouchLaws.{same_row}

-- ---- what a row tells of its blob

abbrev first : Option (List ℕ) → ℕ
first None = 0
first (Some []) = 0
first (Some (b ∷ bs)) = b

size_told : (size moment z touched now : ℕ) → Some (2 ∷ (number_field size ++ number_field moment)) ≡ Some (2 ∷ (number_field z ++ number_field touched)) → Some (2 ∷ (number_field size ++ number_field now)) ≡ Some (2 ∷ (number_field z ++ number_field now))
size_told size moment z touched now is =
    let whole : 2 ∷ (number_field size ++ number_field moment) ≡ 2 ∷ (number_field z ++ number_field touched) = same_Some _ _ is in
    let sizes : number_field size ≡ number_field z = ap (λ (t : List ℕ). take 8 (drop 1 t)) whole in
    ap (λ (s : List ℕ). Some (2 ∷ (s ++ number_field now))) sizes

pub touched_told : (condemned : Option Condemned) (size : Option (Option ℕ)) (touched : Option ℕ) (now : ℕ) (row : BlobRow) → Some (blob_spelled row) ≡ blob_row condemned size touched → Some (blob_spelled (touched_row now row)) ≡ blob_row condemned size (Some now)
touched_told (Some c) size touched now (Pending m) is = let n : 1 ≡ 3 = ap first is in absurd (omega (arith, n))
touched_told (Some c) size touched now (Here s m) is = let n : 2 ≡ 3 = ap first is in absurd (omega (arith, n))
touched_told (Some c) size touched now (Doomed e) is = is
touched_told None None touched now (Pending m) is = let n : 1 ≡ 0 = ap first is in absurd (omega (arith, n))
touched_told None None touched now (Here s m) is = let n : 2 ≡ 0 = ap first is in absurd (omega (arith, n))
touched_told None None touched now (Doomed e) is = let n : 3 ≡ 0 = ap first is in absurd (omega (arith, n))
touched_told None (Some None) touched now (Pending m) is = refl
touched_told None (Some None) touched now (Here s m) is = let n : 2 ≡ 1 = ap first is in absurd (omega (arith, n))
touched_told None (Some None) touched now (Doomed e) is = let n : 3 ≡ 1 = ap first is in absurd (omega (arith, n))
touched_told None (Some (Some z)) touched now (Pending m) is = let n : 1 ≡ 2 = ap first is in absurd (omega (arith, n))
touched_told None (Some (Some z)) touched now (Here s m) is = size_told s m z (or_zero touched) now is
touched_told None (Some (Some z)) touched now (Doomed e) is = let n : 3 ≡ 2 = ap first is in absurd (omega (arith, n))

pub untouched_told : (condemned : Option Condemned) (size : Option (Option ℕ)) (touched : Option ℕ) (now : ℕ) → None ≡ blob_row condemned size touched → None ≡ blob_row condemned size (Some now)
untouched_told (Some c) size touched now is = let n : 0 ≡ 3 = ap first is in absurd (omega (arith, n))
untouched_told None None touched now is = refl
untouched_told None (Some None) touched now is = let n : 0 ≡ 1 = ap first is in absurd (omega (arith, n))
untouched_told None (Some (Some z)) touched now is = let n : 0 ≡ 2 = ap first is in absurd (omega (arith, n))

-- a digest that had no row or one that was touched has one now
kept_told : (condemned : Option Condemned) (size : Option (Option ℕ)) (touched : Option ℕ) (now : ℕ) (row : BlobRow) → Some (blob_spelled row) ≡ blob_row condemned size touched → blob_row condemned (kept_size size) (Some now) ≡ blob_row condemned size (Some now)
kept_told (Some c) size touched now row is = refl
kept_told None None touched now (Pending m) is = let n : 1 ≡ 0 = ap first is in absurd (omega (arith, n))
kept_told None None touched now (Here s m) is = let n : 2 ≡ 0 = ap first is in absurd (omega (arith, n))
kept_told None None touched now (Doomed e) is = let n : 3 ≡ 0 = ap first is in absurd (omega (arith, n))
kept_told None (Some size) touched now row is = refl

pub marked_told : (condemned : Option Condemned) (size : Option (Option ℕ)) (touched : Option ℕ) (now : ℕ) (row : Option BlobRow) → option_map blob_spelled row ≡ blob_row condemned size touched → Some (blob_spelled (marked_row now row)) ≡ blob_row condemned (kept_size size) (Some now)
marked_told condemned size touched now (Some row) is = touched_told condemned size touched now row is ∙ sym (kept_told condemned size touched now row is)
marked_told (Some c) size touched now None is = let n : 0 ≡ 3 = ap first is in absurd (omega (arith, n))
marked_told None None touched now None is = refl
marked_told None (Some None) touched now None is = refl
marked_told None (Some (Some z)) touched now None is = let n : 0 ≡ 2 = ap first is in absurd (omega (arith, n))

doomed_so : (condemned : Option Condemned) (size size′ : Option (Option ℕ)) (touched touched′ : Option ℕ) (entry : ℕ) → Some (3 ∷ number_field entry) ≡ blob_row condemned size touched → Some (3 ∷ number_field entry) ≡ blob_row condemned size′ touched′
doomed_so (Some c) size size′ touched touched′ entry is = is
doomed_so None None size′ touched touched′ entry is = let n : 3 ≡ 0 = ap first is in absurd (omega (arith, n))
doomed_so None (Some None) size′ touched touched′ entry is = let n : 3 ≡ 1 = ap first is in absurd (omega (arith, n))
doomed_so None (Some (Some z)) size′ touched touched′ entry is = let n : 3 ≡ 2 = ap first is in absurd (omega (arith, n))

-- what is not being removed is not condemned
standing_so : (condemned : Option Condemned) (size : Option (Option ℕ)) (touched : Option ℕ) (row : Option (List ℕ)) → (first row ≡ 3 → ⊥) → row ≡ blob_row condemned size touched → condemned ≡ None
standing_so None size touched row n is = refl
standing_so (Some c) size touched row n is = absurd (n (ap first is))

here_so : (condemned : Option Condemned) (size now : ℕ) → condemned ≡ None → Some (2 ∷ (number_field size ++ number_field now)) ≡ blob_row condemned (Some (Some size)) (Some now)
here_so condemned size now is = ap (λ (c : Option Condemned). blob_row c (Some (Some size)) (Some now)) (sym is)

pub come_told : (condemned : Option Condemned) (before : Option (Option ℕ)) (touched : Option ℕ) (size now : ℕ) (row : Option BlobRow) → option_map blob_spelled row ≡ blob_row condemned before touched → Some (blob_spelled (come_row size now row)) ≡ blob_row condemned (Some (Some size)) (Some now)
come_told condemned before touched size now None is = here_so condemned size now (standing_so condemned before touched None (λ (n : 0 ≡ 3). omega (arith, n)) is)
come_told condemned before touched size now (Some (Pending m)) is = here_so condemned size now (standing_so condemned before touched (Some (1 ∷ number_field m)) (λ (n : 1 ≡ 3). omega (arith, n)) is)
come_told condemned before touched size now (Some (Here s m)) is = here_so condemned size now (standing_so condemned before touched (Some (2 ∷ (number_field s ++ number_field m))) (λ (n : 2 ≡ 3). omega (arith, n)) is)
come_told condemned before touched size now (Some (Doomed e)) is = doomed_so condemned before (Some (Some size)) touched (Some now) e is

-- ---- one blob's row

module _ (past : Past) (base : Rows) (digest : List ℕ) (is : IsDigest digest) where
  -- the past with other condemned digests, sizes and moments
  abbrev with_blobs : (List ℕ → Option Condemned) → (List ℕ → Option (Option ℕ)) → (List ℕ → Option ℕ) → Past
  with_blobs condemned sizes touched = record past { condemned = condemned; sizes = sizes; blob_touched = touched }

  record Elsewhere (condemned : List ℕ → Option Condemned) (sizes : List ℕ → Option (Option ℕ)) (touched : List ℕ → Option ℕ) : Type 0 where
    condemned_is : (d : List ℕ) → (digest ≡ d → ⊥) → condemned d ≡ past.condemned d
    sizes_are : (d : List ℕ) → (digest ≡ d → ⊥) → sizes d ≡ past.sizes d
    touched_is : (d : List ℕ) → (digest ≡ d → ⊥) → touched d ≡ past.blob_touched d

  stood : with_past past base (blob_key digest) ≡ blob_row (past.condemned digest) (past.sizes digest) (past.blob_touched digest)
  stood = ap (λ (i : Item). row_of past i (base (blob_key digest))) (digest_own blob_at digest is)

  blobs_become : (condemned : List ℕ → Option Condemned) (sizes : List ℕ → Option (Option ℕ)) (touched : List ℕ → Option ℕ) (row : Option (List ℕ)) → Elsewhere condemned sizes touched → row ≡ blob_row (condemned digest) (sizes digest) (touched digest)
      → with_row (with_past past base) (blob_key digest) row ≡ with_past (with_blobs condemned sizes touched) base
  blobs_become condemned sizes touched row away here =
      only_at past (with_blobs condemned sizes touched) (blob_key digest) (blob_at digest) row base (digest_own blob_at digest is) refl (sym here) others
    where
      others : (other : Item) (old : Option (List ℕ)) → (other ≡ blob_at digest → ⊥) → row_of (with_blobs condemned sizes touched) other old ≡ row_of past other old
      others last_number old n = refl
      others (entry_at number) old n = refl
      others (manifest_at of d) old n = refl
      others (tag_at of t) old n = refl
      others (named_at of m d) old n = refl
      others (child_at of m d) old n = refl
      others (link_at of d) old n = refl
      others (blob_at d) old n =
          let far : digest ≡ d → ⊥ = λ e. n (ap blob_at (sym e)) in
          ap (λ (c : Option Condemned). blob_row c (sizes d) (touched d)) (away.condemned_is d far)
          ∙ ap (λ (s : Option (Option ℕ)). blob_row (past.condemned d) s (touched d)) (away.sizes_are d far)
          ∙ ap (blob_row (past.condemned d) (past.sizes d)) (away.touched_is d far)
      others none_at old n = refl
      others elsewhere old n = refl

  -- touched at this digest alone
  touched_here : (now : ℕ) → (touched_blobs (digest ∷ []) now past).blob_touched digest ≡ Some now
  touched_here now = ap (λ b. cond b (Some now) (past.blob_touched digest)) (one_is digest digest) ∙ at_one digest (Some now) (past.blob_touched digest)

  touched_there : (now : ℕ) (d : List ℕ) → (digest ≡ d → ⊥) → (touched_blobs (digest ∷ []) now past).blob_touched d ≡ past.blob_touched d
  touched_there now d far = ap (λ b. cond b (Some now) (past.blob_touched d)) (one_is d digest) ∙ other_one digest d (Some now) (past.blob_touched d) far

  sized_there : (size : Option (Option ℕ)) (d : List ℕ) → (digest ≡ d → ⊥) → with_one past.sizes digest size d ≡ past.sizes d
  sized_there size d far = other_one digest d size (past.sizes d) far

  touched_away : (now : ℕ) → Elsewhere past.condemned past.sizes (touched_blobs (digest ∷ []) now past).blob_touched
  touched_away now = record { condemned_is = λ d far. refl; sizes_are = λ d far. refl; touched_is = touched_there now }

  pub touch_blob_step : (now : ℕ) (row : BlobRow) → Some (blob_spelled row) ≡ with_past past base (blob_key digest) → with_row (with_past past base) (blob_key digest) (Some (blob_spelled (touched_row now row))) ≡ with_past (touched_blobs (digest ∷ []) now past) base
  touch_blob_step now row found =
      blobs_become past.condemned past.sizes (touched_blobs (digest ∷ []) now past).blob_touched (Some (blob_spelled (touched_row now row))) (touched_away now)
      (touched_told (past.condemned digest) (past.sizes digest) (past.blob_touched digest) now row (found ∙ stood) ∙ ap (blob_row (past.condemned digest) (past.sizes digest)) (sym (touched_here now)))

  pub touch_none_step : (now : ℕ) → None ≡ with_past past base (blob_key digest) → with_past past base ≡ with_past (touched_blobs (digest ∷ []) now past) base
  touch_none_step now found =
      sym (same_row (with_past past base) (blob_key digest))
      ∙ ap (with_row (with_past past base) (blob_key digest)) (sym found)
      ∙ blobs_become past.condemned past.sizes (touched_blobs (digest ∷ []) now past).blob_touched None (touched_away now)
      (untouched_told (past.condemned digest) (past.sizes digest) (past.blob_touched digest) now (found ∙ stood) ∙ ap (blob_row (past.condemned digest) (past.sizes digest)) (sym (touched_here now)))

  -- rowed and touched at this digest alone
  sized_away : (size : Option (Option ℕ)) (now : ℕ) → Elsewhere past.condemned (with_one past.sizes digest size) (touched_blobs (digest ∷ []) now past).blob_touched
  sized_away size now = record { condemned_is = λ d far. refl; sizes_are = sized_there size; touched_is = touched_there now }

  sized_here : (size : Option (Option ℕ)) (now : ℕ) → blob_row (past.condemned digest) size (Some now) ≡ blob_row (past.condemned digest) (with_one past.sizes digest size digest) ((touched_blobs (digest ∷ []) now past).blob_touched digest)
  sized_here size now =
      ap (λ (s : Option (Option ℕ)). blob_row (past.condemned digest) s (Some now)) (sym (at_one digest size (past.sizes digest)))
      ∙ ap (blob_row (past.condemned digest) (with_one past.sizes digest size digest)) (sym (touched_here now))

  pub mark_step : (now : ℕ) (row : Option BlobRow) → option_map blob_spelled row ≡ with_past past base (blob_key digest) → with_row (with_past past base) (blob_key digest) (Some (blob_spelled (marked_row now row))) ≡ with_past (marked digest now past) base
  mark_step now row found =
      let size = kept_size (past.sizes digest) in
      blobs_become past.condemned (with_one past.sizes digest size) (touched_blobs (digest ∷ []) now past).blob_touched (Some (blob_spelled (marked_row now row))) (sized_away size now)
      (marked_told (past.condemned digest) (past.sizes digest) (past.blob_touched digest) now row (found ∙ stood) ∙ sized_here size now)

  pub come_step : (size now : ℕ) (row : Option BlobRow) → option_map blob_spelled row ≡ with_past past base (blob_key digest) → with_row (with_past past base) (blob_key digest) (Some (blob_spelled (come_row size now row))) ≡ with_past (come digest size now past) base
  come_step size now row found =
      blobs_become past.condemned (with_one past.sizes digest (Some (Some size))) (touched_blobs (digest ∷ []) now past).blob_touched (Some (blob_spelled (come_row size now row))) (sized_away (Some (Some size)) now)
      (come_told (past.condemned digest) (past.sizes digest) (past.blob_touched digest) size now row (found ∙ stood) ∙ sized_here (Some (Some size)) now)

  pub doom_step : (condemned : Condemned) → with_row (with_past past base) (blob_key digest) (Some (3 ∷ number_field condemned.number)) ≡ with_past (with_condemned digest (Some condemned) past) base
  doom_step condemned =
      blobs_become (with_one past.condemned digest (Some condemned)) past.sizes past.blob_touched (Some (3 ∷ number_field condemned.number))
      (record { condemned_is = λ d far. other_one digest d (Some condemned) (past.condemned d) far; sizes_are = λ d far. refl; touched_is = λ d far. refl })
      (ap (λ (c : Option Condemned). blob_row c (past.sizes digest) (past.blob_touched digest)) (sym (at_one digest (Some condemned) (past.condemned digest))))
