-- Manifests that are touched.
use Rattle.std.specs.Prelude.{Result, Ok, OnOk}
use Rattle.std.proofs.Common.{◌≡◌, ℕ, List, [], ◌∷◌, ◌++◌, take, drop, Bool, true, false, cond, Option, Some, None, refl, ap, sym, subst, ◌∙◌}
use Rattle.std.proofs.lemmas.Option.{none-some, same_Some}
use Rattle.reg_names.specs.Digests.{IsDigest}
use Rattle.reg_names.specs.Names.{IsName}
use Rattle.reg_entries.specs.Documents.{KeptManifest}
use Rattle.reg_journal.specs.Past.{Past}
use Rattle.reg_journal.specs.Spelling.{number_field, kind_field}
use Rattle.keeper_api.specs.Rows as keys
use Rattle.keeper_api.specs.Rows.{Rows, with_row}
use Rattle.reg_tables.specs.Derived.{row_of, with_past, manifest_row, or_zero}
use Rattle.reg_tables.specs.InnerSteps.{touched_manifests}
use Rattle.reg_tables.specs.Items.{Item, manifest_at}
use Rattle.reg_tables.specs.Keys.{manifest_key}
use Rattle.reg_tables.specs.Spelled.{manifest_spelled}
use Rattle.reg_tables.specs.declared.rows.ManifestRow.{ManifestRow}
use Rattle.reg_tables.proofs.ItemLaws.{spot_own}
use Rattle.reg_tables.proofs.PendingLaws.{same_key}
use Rattle.reg_tables.proofs.StepLaws.{touch_step}

-- a row that is put where it stands already
pub same_row : (rows : Rows) (key : List ℕ) → with_row rows key (rows key) ≡ rows
same_row rows key = λ i q. at q i
  where
    at : (q : List ℕ) → with_row rows key (rows key) q ≡ rows q
    at q = by (keys.is_at key q) refl
      where
        by : (b : Bool) → keys.is_at key q ≡ b → cond b (rows key) (rows q) ≡ rows q
        by true e = ap rows (same_key key q e)
        by false e = refl

-- what a row tells, with another moment
pub told_again : (manifest : Option KeptManifest) (touched : Option ℕ) (row : List ℕ) (r : ManifestRow) (now : ℕ) → Some row ≡ manifest_row manifest touched → manifest_spelled r ≡ row
    → Some (kind_field r.kind ++ (number_field r.size ++ number_field now)) ≡ manifest_row manifest (Some now)
told_again None touched row r now is spelled = absurd (none-some row (sym is))
told_again (Some m) touched row r now is spelled =
    let whole : kind_field r.kind ++ (number_field r.size ++ number_field r.touched) ≡ kind_field m.kind ++ (number_field m.size ++ number_field (or_zero touched)) = spelled ∙ same_Some row _ is in
    let kind : kind_field r.kind ≡ kind_field m.kind = ap (take 1) whole in
    let size : number_field r.size ≡ number_field m.size = ap (λ (t : List ℕ). take 8 (drop 1 t)) whole in
    ap (λ (k : List ℕ). Some (k ++ (number_field r.size ++ number_field now))) kind ∙ ap (λ (s : List ℕ). Some (kind_field m.kind ++ (s ++ number_field now))) size

untold : (manifest : Option KeptManifest) (touched : Option ℕ) (now : ℕ) → None ≡ manifest_row manifest touched → None ≡ manifest_row manifest (Some now)
untold None touched now is = refl
untold (Some m) touched now is = absurd (none-some _ is)

-- the row of a manifest, by what is found at its key
pub manifest_told : (past : Past) (base : Rows) (name digest : List ℕ) → IsName name → IsDigest digest → with_past past base (manifest_key name digest) ≡ manifest_row (past.manifests name digest) (past.manifest_touched name digest)
manifest_told past base name digest is digest_is = ap (λ (i : Item). row_of past i (base (manifest_key name digest))) (spot_own manifest_at name digest is digest_is)

module _ (old new base : Rows) (past : Past) (name digest : List ℕ) (now : ℕ) (is : IsName name) (digest_is : IsDigest digest) (h : old ≡ with_past past base) where
  here : old (manifest_key name digest) ≡ manifest_row (past.manifests name digest) (past.manifest_touched name digest)
  here = ap (λ (r : Rows). r (manifest_key name digest)) h ∙ manifest_told past base name digest is digest_is

  pub touched_some : (row : List ℕ) (r : ManifestRow) → Some row ≡ old (manifest_key name digest) → manifest_spelled r ≡ row
      → new ≡ with_row old (manifest_key name digest) (Some (kind_field r.kind ++ (number_field r.size ++ number_field now))) → new ≡ with_past (touched_manifests name (digest ∷ []) now past) base
  touched_some row r found spelled put =
      put
      ∙ ap (λ (f : Rows). with_row f (manifest_key name digest) (Some (kind_field r.kind ++ (number_field r.size ++ number_field now)))) h
      ∙ ap (with_row (with_past past base) (manifest_key name digest)) (told_again (past.manifests name digest) (past.manifest_touched name digest) row r now (found ∙ here) spelled)
      ∙ touch_step past base name digest now is digest_is

  pub touched_none : None ≡ old (manifest_key name digest) → old ≡ with_past (touched_manifests name (digest ∷ []) now past) base
  touched_none found =
      h ∙ sym (same_row (with_past past base) (manifest_key name digest))
      ∙ ap (with_row (with_past past base) (manifest_key name digest))
      (manifest_told past base name digest is digest_is ∙ sym (found ∙ here) ∙ untold (past.manifests name digest) (past.manifest_touched name digest) now (found ∙ here))
      ∙ touch_step past base name digest now is digest_is

-- what holds where something was made, where it was
pub noted : {A E : Type 0} {Holds : Type 0} (made : Result A E) (x : A) → made ≡ Ok x → OnOk made Holds → Holds
noted {Holds = Holds} made x is h = subst (λ r. OnOk r Holds) is h
