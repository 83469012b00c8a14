-- What may stand at the keys of the version and of the delay.
use Rattle.std.proofs.Common.{◌≡◌, ℕ, List, [], ◌∷◌, length, refl, sym, ap, ◌∙◌, arith, inl, inr}
use Rattle.std.specs.Prelude.{slice_index}
use Rattle.std.proofs.lemmas.List.{append-nil}
use Rattle.reg_journal.specs.Entries.{IsNumber}
use Rattle.reg_journal.specs.Spelling.{number_field}
use Rattle.keeper_api.specs.declared.field.Field.TheVariants as field
use Rattle.keeper_api.specs.Fields.{AreFields}
use Rattle.keeper_api.specs.Tables.{lines, Fits}
use Rattle.reg_tables.specs.Keys.{last_number_key}
use Rattle.reg_tables.specs.Meta.{version_key, version_row, delay_key, delay_row}
use Rattle.reg_tables.proofs.FormLaws.{lines_of, in_table, one_field, one_number}

pub version_fits : (row : List ℕ) → row ≡ version_row → Fits version_key row
version_fits row is =
    inl (record { at_table = refl; key_fields = (0 ∷ [], [], refl, refl, refl); row_form = (number_field 1, [], refl, refl, is ∙ sym (append-nil (number_field 1))) })

pub delay_fits : (row : List ℕ) (delay : ℕ) → IsNumber delay → row ≡ delay_row delay → Fits delay_key row
delay_fits row delay number is =
    inr (inl (record { at_table = refl; key_fields = (1 ∷ [], [], refl, refl, refl); row_form = (number_field delay, [], (delay, number, refl), refl, is ∙ sym (append-nil (number_field delay))) }))

at_byte : (b n : ℕ) → AreFields (field.Byte b ∷ []) (n ∷ []) → n ≡ b
at_byte b n a = ap (λ (t : List ℕ). slice_index t 0) (one_field (field.Byte b) (n ∷ []) a ∙ a.2)

pub version_form : (row : List ℕ) → Fits version_key row → row ≡ version_row
unfolding lines_of
version_form row h =
    elim (in_table 0 (0 ∷ []) row lines h) [
      | inl f ↦ one_field field.One row f.row_form ∙ f.row_form.2
      | inr (inl f) ↦ absurd (omega (arith, at_byte 1 0 f.key_fields))
      | inr (inr (inl f)) ↦ absurd (omega (arith, at_byte 2 0 f.key_fields))
      | inr (inr (inr (inl f))) ↦ absurd (omega (arith, at_byte 3 0 f.key_fields))
      | inr (inr (inr (inr e))) ↦ absurd e
    ]

pub delay_form : (row : List ℕ) → Fits delay_key row → length row ≡ 8
unfolding lines_of
delay_form row h =
    elim (in_table 0 (1 ∷ []) row lines h) [
      | inl f ↦ absurd (omega (arith, at_byte 0 1 f.key_fields))
      | inr (inl f) ↦ one_number row f.row_form
      | inr (inr (inl f)) ↦ absurd (omega (arith, at_byte 2 1 f.key_fields))
      | inr (inr (inr (inl f))) ↦ absurd (omega (arith, at_byte 3 1 f.key_fields))
      | inr (inr (inr (inr e))) ↦ absurd e
    ]

pub last_number_form : (row : List ℕ) → Fits last_number_key row → length row ≡ 8
unfolding lines_of
last_number_form row h =
    elim (in_table 0 (3 ∷ []) row lines h) [
      | inl f ↦ absurd (omega (arith, at_byte 0 3 f.key_fields))
      | inr (inl f) ↦ absurd (omega (arith, at_byte 1 3 f.key_fields))
      | inr (inr (inl f)) ↦ absurd (omega (arith, at_byte 2 3 f.key_fields))
      | inr (inr (inr (inl f))) ↦ one_number row f.row_form
      | inr (inr (inr (inr e))) ↦ absurd e
    ]
