-- Phases read back from their rows, so no two are spelled alike.
use Rattle.std.proofs.Common.{◌≡◌, ℕ, cond, eqb, List, ◌∷◌, take, drop, refl, sym, ap, subst, ◌∙◌}
use Rattle.std.specs.Prelude.{slice_index}
use Rattle.std.specs.Int.{w64, from_be_bytes}
use Rattle.std.proofs.lemmas.Nat.{from_be_bytes-to_be_bytes_8}
use Rattle.depot_api.specs.Paths.{IsPath, parts_of, path_text}
use Rattle.depot_api.proofs.PathLaws.{parts_of-path_text}
use Rattle.keeper_api.specs.Rows.{Rows}
use Rattle.import_phase.specs.declared.phase.Cursor.{Cursor}
use Rattle.import_phase.specs.declared.phase.Cursor.TheVariants as cursor
use Rattle.import_phase.specs.declared.phase.Two.{Two}
use Rattle.import_phase.specs.declared.phase.Two.TheVariants as second
use Rattle.import_phase.specs.declared.phase.Phase.{Phase}
use Rattle.import_phase.specs.declared.phase.Phase.TheVariants as phase
use Rattle.import_phase.specs.Phases.{path_field, cursor_spelled, two_spelled, phase_spelled, IsPhase, IsKeptPath, IsKeptCursor, IsKeptTwo, IsKept}
use Rattle.import_phase.specs.InnerForms.{IsSpelling, IsRead}

-- ---- reading

by_state : {A : Type 0} → ℕ → A → A → A → A → A
by_state state zero one two more =
    cond (eqb state 0) zero (cond (eqb state 1) one (cond (eqb state 2) two more))

cursor_at : List ℕ → Cursor
cursor_at bytes = by_state (slice_index bytes 0) cursor.Start (cursor.At (parts_of (drop 3 bytes))) cursor.Done cursor.Done

two_at : List ℕ → Two
two_at bytes =
    by_state (slice_index bytes 0) second.FilesStart (second.Files (parts_of (drop 3 bytes))) second.RowsStart
    (second.Rows (slice_index bytes 1 ∷ drop 4 bytes))

phase_at : List ℕ → Phase
phase_at bytes =
    let tables = phase.Tables (from_be_bytes w64 (take 8 (drop 1 bytes))) (cursor_at (drop 9 bytes)) in
    by_state (slice_index bytes 0) tables (phase.Files (cursor_at (drop 1 bytes))) (phase.Frozen (two_at (drop 1 bytes))) tables

cursor_again : (at : Cursor) → IsKeptCursor at → cursor_at (cursor_spelled at) ≡ at
unfolding by_state cursor_at
cursor_again cursor.Start k = refl
cursor_again (cursor.At path) k = ap cursor.At (parts_of-path_text path k.parts)
cursor_again cursor.Done k = refl

two_again : (at : Two) → IsKeptTwo at → two_at (two_spelled at) ≡ at
unfolding by_state two_at
two_again second.FilesStart k = refl
two_again (second.Files path) k = ap second.Files (parts_of-path_text path k.parts)
two_again second.RowsStart k = refl
two_again (second.Rows key) k =
    subst (λ (t : List ℕ). two_at (two_spelled (second.Rows t)) ≡ second.Rows t) (sym k.is) refl

phase_again : (now : Phase) → IsKept now → phase_at (phase_spelled now) ≡ now
unfolding by_state phase_at
phase_again (phase.Files one) k = ap phase.Files (cursor_again one k)
phase_again (phase.Frozen two) k = ap phase.Frozen (two_again two k)
phase_again (phase.Tables since three) k =
    ap (λ (n : ℕ). phase.Tables n (cursor_at (cursor_spelled three))) (from_be_bytes-to_be_bytes_8 since k.0) ∙ ap (λ (c : Cursor). phase.Tables since c) (cursor_again three k.2)

pub spelled_alike : (one two : Phase) → IsKept one → IsKept two → phase_spelled one ≡ phase_spelled two → one ≡ two
spelled_alike one two first last e = sym (phase_again one first) ∙ ap phase_at e ∙ phase_again two last

pub one_phase : (rows : Rows) (one two : Phase) → IsKept one → IsKept two → IsPhase rows one → IsPhase rows two → one ≡ two
one_phase rows one two first last e f = spelled_alike one two first last (e ∙ sym f)

-- ---- paths

-- the text behind the two bytes that count it is that of the path
module _ (bytes text : List ℕ) (h : IsSpelling path_field IsKeptPath bytes) (is : text ≡ drop 2 bytes) where
  text_is : text ≡ path_text h.of
  text_is = is ∙ ap (λ (t : List ℕ). drop 2 t) h.same

  parts_are : parts_of text ≡ h.of
  parts_are = ap parts_of text_is ∙ parts_of-path_text h.of h.such.parts

  pub is_path : IsPath (parts_of text)
  is_path = subst IsPath (sym parts_are) h.such.parts

  pub path_read : (found : List (List ℕ)) → found ≡ parts_of text → IsRead path_field IsKeptPath bytes found
  path_read found e =
      let same : found ≡ h.of = e ∙ parts_are in
      record { such = subst IsKeptPath (sym same) h.such; same = ap path_field same ∙ sym h.same }
