-- What a row that may stand at a key of a table begins with, and how long it is; and what is read off its front.
use Rattle.std.proofs.Common.{◌≡◌, ℕ, ◌+◌, ◌≤◌, cond, eqb, List, [], ◌∷◌, ◌++◌, length, take, drop, take-append-drop, length-append, refl, sym, ap, subst, ◌∙◌, arith, inl, inr}
use Rattle.std.specs.Prelude.{slice_index}
use Rattle.std.specs.Int.{w64, from_be_bytes}
use Rattle.std.proofs.lemmas.Bool.{cases_Bool, eqb-false}
use Rattle.std.proofs.lemmas.List.{take_at, append-nil}
use Rattle.std.proofs.lemmas.Nat.{be_bytes_8}
use Rattle.reg_names.specs.declared.kind.Kind.{Kind}
use Rattle.reg_names.specs.declared.kind.Kind.TheVariants.{OciImage, OciIndex, DockerImage, DockerList}
use Rattle.reg_names.specs.Digests.{AreBytes, IsDigest}
use Rattle.reg_journal.specs.Spelling.{number_field, kind_number}
use Rattle.keeper_api.specs.declared.field.Field.{Field}
use Rattle.keeper_api.specs.declared.field.Field.TheVariants as field
use Rattle.keeper_api.specs.Fields.{AreFields}
use Rattle.keeper_api.specs.Tables.{Line, lines, HasLine, Fits, IsOneOf, standings}
use Rattle.reg_tables.specs.InnerForms.{IsManifestRow, IsLinkRow, IsBlobRow, IsFreeRow}

-- ---- the lines of one table

unfoldable pub lines_of : ℕ → List Line → List Line
lines_of table [] = []
lines_of table (l ∷ ls) = cond (eqb table l.table) (l ∷ lines_of table ls) (lines_of table ls)

pub in_table : (table : ℕ) (key row : List ℕ) (ls : List Line) → HasLine ls table key row → HasLine (lines_of table ls) table key row
unfolding lines_of
in_table table key row [] h = absurd h
in_table table key row (l ∷ ls) (inl h) = elim (cases_Bool (eqb table l.table)) [ inl y ↦ rw y (inl h) | inr n ↦ absurd (eqb-false table l.table n h.at_table) ]
in_table table key row (l ∷ ls) (inr h) =
    let later = in_table table key row ls h in
    elim (cases_Bool (eqb table l.table)) [ inl y ↦ rw y (inr later) | inr n ↦ rw n later ]

-- ---- fields in front

record Behind (fs : List Field) (bytes : List ℕ) (size : ℕ) : Type 0 where
  rest : List ℕ
  fields : AreFields fs rest
  long : length bytes ≡ size + length rest

front_long : (bytes front rest : List ℕ) → bytes ≡ front ++ rest → length bytes ≡ length front + length rest
front_long bytes front rest is = ap length is ∙ length-append front rest

number_first : (fs : List Field) (bytes : List ℕ) → AreFields (field.Number ∷ fs) bytes → Behind fs bytes 8
number_first fs bytes a =
    let eight : length a.0 ≡ 8 = ap length a.2.2 in
    record { rest = a.1; fields = a.3; long = omega (arith, front_long bytes a.0 a.1 a.4, eight) }

record Begins (fs : List Field) (bytes : List ℕ) (n : ℕ) : Type 0 where
  behind : Behind fs bytes 1
  first : slice_index bytes 0 ≡ n

one_first : (fs : List Field) (bytes front rest : List ℕ) (n : ℕ) → front ≡ n ∷ [] → AreFields fs rest → bytes ≡ front ++ rest → Begins fs bytes n
one_first fs bytes front rest n one fields is =
    let whole : bytes ≡ n ∷ rest = is ∙ ap (λ (t : List ℕ). t ++ rest) one in
    record { behind = record { rest = rest; fields = fields; long = ap length whole ∙ omega arith }; first = ap (λ (t : List ℕ). slice_index t 0) whole }

byte_first : (b : ℕ) (fs : List Field) (bytes : List ℕ) → AreFields (field.Byte b ∷ fs) bytes → Begins fs bytes b
byte_first b fs bytes a = one_first fs bytes a.0 a.1 b a.2 a.3 a.4

kind_range : (kind : Kind) → (1 ≤ kind_number kind) × (kind_number kind ≤ 4)
kind_range OciImage = (omega arith, omega arith)
kind_range OciIndex = (omega arith, omega arith)
kind_range DockerImage = (omega arith, omega arith)
kind_range DockerList = (omega arith, omega arith)

nothing_left : (bytes : List ℕ) → AreFields [] bytes → length bytes ≡ 0
nothing_left bytes is = ap length is

two_numbers : (bytes : List ℕ) → AreFields (field.Number ∷ field.Number ∷ []) bytes → length bytes ≡ 16
two_numbers bytes a =
    let one = number_first (field.Number ∷ []) bytes a in
    let two = number_first [] one.rest one.fields in
    omega (arith, one.long, two.long, nothing_left two.rest two.fields)

pub one_number : (bytes : List ℕ) → AreFields (field.Number ∷ []) bytes → length bytes ≡ 8
one_number bytes a = let one = number_first [] bytes a in omega (arith, one.long, nothing_left one.rest one.fields)

-- one field alone
pub one_field : (f : Field) (bytes : List ℕ) (a : AreFields (f ∷ []) bytes) → bytes ≡ a.0
one_field f bytes a = a.4 ∙ ap (λ (t : List ℕ). a.0 ++ t) a.3 ∙ append-nil a.0

pub one_digest : (bytes : List ℕ) → AreFields (field.Digest ∷ []) bytes → IsDigest bytes
one_digest bytes a = subst IsDigest (sym (one_field field.Digest bytes a)) a.2

-- ---- rows

manifest_row : (row : List ℕ) → AreFields (field.Kind ∷ field.Number ∷ field.Number ∷ []) row → IsManifestRow row
manifest_row row a =
    let kind = a.2.0 in
    let begins = one_first (field.Number ∷ field.Number ∷ []) row a.0 a.1 (kind_number kind) a.2.1 a.3 a.4 in
    let behind = begins.behind in
    let range = kind_range kind in
    record {
      long = omega (arith, behind.long, two_numbers behind.rest behind.fields);
      some = omega (arith, begins.first, range.0);
      most = omega (arith, begins.first, range.1);
    }

pub manifest_form : (key row : List ℕ) → Fits (2 ∷ key) row → IsManifestRow row
unfolding lines_of
manifest_form key row h =
    elim (in_table 2 key row lines h) [ inl f ↦ manifest_row row f.row_form | inr e ↦ absurd e ]

pub link_form : (key row : List ℕ) → Fits (7 ∷ key) row → IsLinkRow row
unfolding lines_of
link_form key row h = elim (in_table 7 key row lines h) [ inl f ↦ two_numbers row f.row_form | inr e ↦ absurd e ]

pub tag_form : (key row : List ℕ) → Fits (4 ∷ key) row → IsDigest row
unfolding lines_of
tag_form key row h = elim (in_table 4 key row lines h) [ inl f ↦ one_digest row f.row_form | inr e ↦ absurd e ]

pub named_form : (key row : List ℕ) → Fits (5 ∷ key) row → IsFreeRow row
unfolding lines_of
named_form key row h =
    elim (in_table 5 key row lines h) [ inl f ↦ (f.row_form.2.0, one_field field.Free row f.row_form ∙ f.row_form.2.1) | inr e ↦ absurd e ]

pub child_form : (key row : List ℕ) → Fits (6 ∷ key) row → row ≡ []
unfolding lines_of
child_form key row h = elim (in_table 6 key row lines h) [ inl f ↦ f.row_form | inr e ↦ absurd e ]

blob_row : (row : List ℕ) → IsOneOf standings row → IsBlobRow row
blob_row row (inl a) =
    let b = byte_first 1 (field.Number ∷ []) row a in
    let first = b.first in
    let long : length row ≡ 9 = omega (arith, b.behind.long, one_number b.behind.rest b.behind.fields) in
    record { some = omega (arith, first); most = omega (arith, first); short = omega (arith, long); pending = λ e. long; here = λ e. absurd (omega (arith, first, e)); doomed = λ e. long }
blob_row row (inr (inl a)) =
    let b = byte_first 2 (field.Number ∷ field.Number ∷ []) row a in
    let first = b.first in
    let long : length row ≡ 17 = omega (arith, b.behind.long, two_numbers b.behind.rest b.behind.fields) in
    record { some = omega (arith, first); most = omega (arith, first); short = omega (arith, long); pending = λ e. absurd (omega (arith, first, e)); here = λ e. long; doomed = λ e. absurd (omega (arith, first, e)) }
blob_row row (inr (inr (inl a))) =
    let b = byte_first 3 (field.Number ∷ []) row a in
    let first = b.first in
    let long : length row ≡ 9 = omega (arith, b.behind.long, one_number b.behind.rest b.behind.fields) in
    record { some = omega (arith, first); most = omega (arith, first); short = omega (arith, long); pending = λ e. long; here = λ e. absurd (omega (arith, first, e)); doomed = λ e. long }
blob_row row (inr (inr (inr e))) = absurd e

pub blob_form : (key row : List ℕ) → Fits (8 ∷ key) row → IsBlobRow row
unfolding lines_of
blob_form key row h = elim (in_table 8 key row lines h) [ inl f ↦ blob_row row f.row_form | inr e ↦ absurd e ]

-- ---- reading

-- a chunk of all eight bytes is spelled back
pub number_back : (bytes chunk : List ℕ) → AreBytes bytes → length bytes ≡ 8 → chunk ≡ take 8 bytes → number_field (from_be_bytes w64 chunk) ≡ bytes
number_back bytes chunk fits long is =
    let whole : take 8 bytes ≡ bytes = ap (take 8) (sym (append-nil bytes)) ∙ take_at bytes [] 8 long in
    ap (λ (t : List ℕ). number_field (from_be_bytes w64 t)) (is ∙ whole) ∙ be_bytes_8 bytes (from_be_bytes w64 bytes) long fits refl

-- the first byte, and what is behind it in two parts
pub in_parts : (row : List ℕ) (n : ℕ) (one two : List ℕ) → 1 ≤ length row → n ≡ slice_index row 0 → one ≡ take 8 (drop 1 row) → two ≡ drop 8 (drop 1 row) → n ∷ (one ++ two) ≡ row
in_parts [] n one two some first a b = absurd (omega (arith, some))
in_parts (x ∷ row) n one two some first a b =
    ap (λ (m : ℕ). m ∷ (one ++ two)) first
    ∙ ap (λ (t : List ℕ). x ∷ (t ++ two)) a
    ∙ ap (λ (t : List ℕ). x ∷ (take 8 row ++ t)) b
    ∙ ap (λ (t : List ℕ). x ∷ t) (take-append-drop 8 row)

pub in_two : (row : List ℕ) (n : ℕ) (rest : List ℕ) → 1 ≤ length row → n ≡ slice_index row 0 → rest ≡ drop 1 row → n ∷ rest ≡ row
in_two [] n rest some first a = absurd (omega (arith, some))
in_two (x ∷ row) n rest some first a = ap (λ (m : ℕ). m ∷ rest) first ∙ ap (λ (t : List ℕ). x ∷ t) a

pub digest_back : (row raw : List ℕ) → IsDigest row → raw ≡ take 32 (drop 1 row) → 1 ∷ raw ≡ row
digest_back row raw h is =
    let whole : take 32 (drop 1 row) ≡ h.raw = ap (λ (t : List ℕ). take 32 (drop 1 t)) h.is ∙ ap (take 32) (sym (append-nil h.raw)) ∙ take_at h.raw [] 32 h.long in
    ap (λ (t : List ℕ). 1 ∷ t) (is ∙ whole) ∙ sym h.is
