-- A row may stand at a key exactly where the tests say so.
use Rattle.std.proofs.Common.{◌≡◌, ℕ, true, false, eqb, List, [], ◌∷◌, length, Option, Some, None, refl, ap, ◌∙◌, inl, inr, ⊎_elim}
use Rattle.std.specs.Prelude.{◌&&◌}
use Rattle.std.specs.Option.{option_map_or}
use Rattle.std.proofs.lemmas.Bool.{eqb-true, and_parts, and_from, or_cases, or_left, or_right, false≢true}
use Rattle.std.proofs.lemmas.List.{nil_from_length}
use Rattle.reg_names.specs.Digests.{AreBytes}
use Rattle.keeper_api.specs.declared.field.Field.{Field}
use Rattle.keeper_api.specs.Fields.{AreFields}
use Rattle.keeper_api.specs.InnerFields.{strip, are_fields}
use Rattle.keeper_api.specs.Tables.{Form, made_of, one_of, an_entry, anything, IsOneOf, IsForm, Line, lines, IsOf, HasLine, Fits}
use Rattle.keeper_api.specs.InnerTables.{is_one_of, is_form, is_of, has_line, may_stand}
use Rattle.keeper_api.proofs.FieldLaws.{strips, eqb-itself}
use Rattle.keeper_api.proofs.EntryLaws.{entry_from, entry_is}

pub fields_from : (fs : List Field) (bytes : List ℕ) → AreBytes bytes → are_fields fs bytes ≡ true → AreFields fs bytes
unfolding are_fields
fields_from [] bytes fits h = nil_from_length bytes (eqb-true (length bytes) 0 h)
fields_from (f ∷ fs) bytes fits h = by (λ rest fits. fields_from fs rest fits) (strip f bytes) refl h
  where
    by : ((rest : List ℕ) → AreBytes rest → are_fields fs rest ≡ true → AreFields fs rest) → (o : Option (List ℕ)) → strip f bytes ≡ o → option_map_or (are_fields fs) o false ≡ true → AreFields (f ∷ fs) bytes
    by later None is h = absurd (false≢true h)
    by later (Some rest) is h =
        let p = (strips f).passed bytes rest fits is in
        (p.front, rest, p.spells, later rest p.takes.rest_fits h, p.takes.parts)

pub fields_are : (fs : List Field) (bytes : List ℕ) → AreFields fs bytes → are_fields fs bytes ≡ true
unfolding are_fields
fields_are [] bytes are = ap (λ (b : List ℕ). eqb (length b) 0) are
fields_are (f ∷ fs) bytes are =
    ap (λ o. option_map_or (are_fields fs) o false) (ap (strip f) are.4 ∙ (strips f).again are.0 are.1 are.2) ∙ fields_are fs are.1 are.3

one_from : (lists : List (List Field)) (row : List ℕ) → AreBytes row → is_one_of lists row ≡ true → IsOneOf lists row
one_from [] row fits h = absurd (false≢true h)
one_from (fs ∷ lists) row fits h =
    ⊎_elim (λ y. inl (fields_from fs row fits y)) (λ y. inr (one_from lists row fits y)) (or_cases (are_fields fs row) (is_one_of lists row) h)

one_is : (lists : List (List Field)) (row : List ℕ) → IsOneOf lists row → is_one_of lists row ≡ true
one_is [] row h = absurd h
one_is (fs ∷ lists) row (inl y) = or_left (are_fields fs row) (is_one_of lists row) (fields_are fs row y)
one_is (fs ∷ lists) row (inr y) = or_right (are_fields fs row) (is_one_of lists row) (one_is lists row y)

form_from : (form : Form) (row : List ℕ) → AreBytes row → is_form form row ≡ true → IsForm form row
form_from (made_of fs) row fits h = fields_from fs row fits h
form_from (one_of lists) row fits h = one_from lists row fits h
form_from an_entry row fits h = entry_from row fits h
form_from anything row fits h = tt

form_is : (form : Form) (row : List ℕ) → AreBytes row → IsForm form row → is_form form row ≡ true
form_is (made_of fs) row fits h = fields_are fs row h
form_is (one_of lists) row fits h = one_is lists row h
form_is an_entry row fits h = entry_is row fits h
form_is anything row fits h = refl

of_from : (l : Line) (table : ℕ) (key row : List ℕ) → AreBytes key → AreBytes row → is_of l table key row ≡ true → IsOf l table key row
of_from l table key row key_fits row_fits h =
    let p = and_parts (eqb table l.table) (are_fields l.key key && is_form l.row row) h in
    let q = and_parts (are_fields l.key key) (is_form l.row row) p.1 in
    record { at_table = eqb-true table l.table p.0; key_fields = fields_from l.key key key_fits q.0; row_form = form_from l.row row row_fits q.1 }

of_is : (l : Line) (table : ℕ) (key row : List ℕ) → AreBytes row → IsOf l table key row → is_of l table key row ≡ true
of_is l table key row fits h =
    and_from _ _ (ap (λ n. eqb n l.table) h.at_table ∙ eqb-itself l.table) (and_from _ _ (fields_are l.key key h.key_fields) (form_is l.row row fits h.row_form))

line_from : (ls : List Line) (table : ℕ) (key row : List ℕ) → AreBytes key → AreBytes row → has_line ls table key row ≡ true → HasLine ls table key row
line_from [] table key row key_fits row_fits h = absurd (false≢true h)
line_from (l ∷ ls) table key row key_fits row_fits h =
    ⊎_elim (λ y. inl (of_from l table key row key_fits row_fits y)) (λ y. inr (line_from ls table key row key_fits row_fits y)) (or_cases (is_of l table key row) (has_line ls table key row) h)

line_is : (ls : List Line) (table : ℕ) (key row : List ℕ) → AreBytes row → HasLine ls table key row → has_line ls table key row ≡ true
line_is [] table key row fits h = absurd h
line_is (l ∷ ls) table key row fits (inl y) = or_left (is_of l table key row) (has_line ls table key row) (of_is l table key row fits y)
line_is (l ∷ ls) table key row fits (inr y) = or_right (is_of l table key row) (has_line ls table key row) (line_is ls table key row fits y)

pub stands : (key row : List ℕ) → AreBytes row → Fits key row → may_stand key row ≡ true
stands [] row fits h = absurd h
stands (table ∷ key) row fits h = line_is lines table key row fits h

pub stands_from : (table : ℕ) (key row : List ℕ) → AreBytes key → AreBytes row → may_stand (table ∷ key) row ≡ true → Fits (table ∷ key) row
stands_from table key row key_fits row_fits h = line_from lines table key row key_fits row_fits h
