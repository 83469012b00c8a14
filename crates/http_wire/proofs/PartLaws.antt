-- Field lines, sections, and the pieces of a chunked body: each is there, may still come, or never comes.
use Rattle.std.proofs.Common.{◌≡◌, ◌≢◌, ℕ, ◌<◌, ◌≤◌, List, [], ◌∷◌, ◌++◌, length, suc, zero, take, drop, slice_range, refl, sym, ap, ◌∙◌, arith, append_assoc, append-nil, length-append, inl, inr, None, Some, flat_map}
use Rattle.std.specs.Prelude.{Option, Ok, Err, ⊤}
use Rattle.std.specs.Char.{is_ascii_hexdigit}
use Rattle.std.proofs.lemmas.Bool.{cases_lt, cases_eq}
use Rattle.std.proofs.lemmas.List.Elements.{All-nil, All-cons}
use Rattle.httparse.specs.declared.Status.TheVariants.{Partial}
use Rattle.httparse.specs.Grammar.{is_token_byte, is_value_byte, is_ows, is_extension_byte, LineEnd, crlf, print_end, Field, print_field, IsField, IsChunkLine, print_chunk_line}
use Rattle.httparse.specs.Pieces.{IsRunAt, Piece, Begins, Then, NotYet, Never, Completes, Bytes, Newline, Word, Text, FieldLine, FieldLines, Section, Run, HexDigits, Extension, Chunk}
use Rattle.httparse.proofs.PieceLemmas.{Refutes_by, Refutes_first, NotYet_intro, Name_deterministic, colon_ends_token, FieldLine_parts, FieldLines-append, Section_skip}
use Rattle.httparse.proofs.ReadLemmas.{Text_open, Text_wrong, Text_done, FieldLine_done, BeginsLine_either, Section_after}
use Rattle.httparse.proofs.ChunkLemmas.{Run_deterministic, HexDigits_deterministic, Run_open, Run_done, HexDigits_open, HexDigits_empty, HexDigits_long, HexDigits_done, Extension_inside, Extension_absent, Extension_present, Extension_done, chunk_line, chunk_pieces, chunk_from_pieces}
use Rattle.httparse.proofs.OpenLemmas.{letter_is_token, some_text, some_extension, IsRunAt_all, Text_after_run, Section_after_lines, Section_of_line, Extension_without, Extension_with, padding_cut, digits_cut}
use Rattle.http_wire.specs.Bodies.{Reads, IsGap, print_gap}
use Rattle.http_wire.proofs.HeadLaws.{fields_are_long}
use Rattle.http_wire.proofs.DecidingLaws.{Answer, found, cut_off, never_comes, weaker, answer_map, answer_next, answer_then, run_at, run_behind, word_is, word_answer, newline_answer, bytes_answer}

-- ---- fields

text_answer : (text : List ℕ) → Answer Text text
text_answer text =
    let run = (run_at is_value_byte text).1 in
    let end = (run_at is_value_byte text).0 in
    elim (newline_answer (drop end text)) [
      | found e rest x ↦ found (slice_range text 0 end, e) rest (Text_done run e rest x)
      | cut_off none may ↦ cut_off (Text_open run none) (Text_after_run run may)
      | never_comes never ↦ never_comes (Text_wrong run never)
    ]

abbrev Row : Piece (List ℕ × (List ℕ × LineEnd))
Row = Then (Word is_token_byte 58) Text

row_answer : (text : List ℕ) → Answer Row text
row_answer text =
    answer_then (Word is_token_byte 58) Text Name_deterministic some_text text_answer text
    (word_answer is_token_byte 58 65 letter_is_token text (word_is is_token_byte 58 colon_ends_token text))

field_answer : (text : List ℕ) → Answer FieldLine text
field_answer text =
    answer_map Row FieldLine (λ t. record { name = t.0; raw = t.1.0; end = t.1.1 })
    (λ t before rest x. FieldLine_done t.0 t.1.0 t.1.1 before x.0 rest x.1 x.2)
    (λ before h. (_, h.1, FieldLine_parts h.0 before h.1 h.2)) text (row_answer text)

-- ---- sections

one_line : (f : Field) (text rest : List ℕ) → FieldLine f text rest → FieldLines (f ∷ []) text rest
one_line f text rest x = (All-cons IsField f [] x.0 (All-nil IsField), x.1 ∙ ap (λ (t : List ℕ). t ++ rest) (sym (append-nil (print_field f))))

section_behind : (f : Field) (text middle : List ℕ) → FieldLine f text middle → (more : List ℕ) → Begins Section (text ++ more) → Begins Section (middle ++ more)
section_behind f text middle x more h =
    let behind = Section_skip (f ∷ []) h.0.0 h.0.1 (text ++ more) (middle ++ more) h.1 (FieldLines-append (f ∷ []) text middle more (one_line f text middle x)) h.2 in
    ((behind.0, h.0.1), h.1, behind.2)

section_more : (f : Field) (text middle : List ℕ) → FieldLine f text middle → Answer Section middle → Answer Section text
section_more f text middle x (found s rest y) = found (f ∷ s.0, s.1) rest (
  All-cons IsField f s.0 x.0 y.0,
  x.1 ∙ ap (λ (t : List ℕ). print_field f ++ t) y.1 ∙ sym (append_assoc (print_field f) (flat_map print_field s.0 ++ print_end s.1) rest)
      ∙ ap (λ (t : List ℕ). t ++ rest) (sym (append_assoc (print_field f) (flat_map print_field s.0) (print_end s.1))),
)
section_more f text middle x (cut_off none may) = cut_off (Refutes_by (section_behind f text middle x) none) (Section_after_lines (f ∷ []) (one_line f text middle x) may)
section_more f text middle x (never_comes never) = never_comes (Refutes_by (section_behind f text middle x) never)

no_lines : (text : List ℕ) → FieldLines [] text text
no_lines text = (All-nil IsField, refl)

section_ends : (text : List ℕ) (e : LineEnd) (rest : List ℕ) → Newline e text rest → Answer Section text
section_ends text e rest x = found ([], e) rest (All-nil IsField, x)

section_at_cut : (text : List ℕ) → NotYet (Begins FieldLine) text → Completes FieldLine text → Answer Newline text → Answer Section text
section_at_cut text none may (found e rest x) = section_ends text e rest x
section_at_cut text none may (cut_off no_end end) = cut_off (Section_after [] (no_lines text) (BeginsLine_either no_end none)) (Section_of_line (inl end))
section_at_cut text none may (never_comes no_end) = cut_off (Section_after [] (no_lines text) (BeginsLine_either (weaker no_end) none)) (Section_of_line (inr may))

section_at_other : (text : List ℕ) → Never (Begins FieldLine) text → Answer Newline text → Answer Section text
section_at_other text never (found e rest x) = section_ends text e rest x
section_at_other text never (cut_off no_end end) = cut_off (Section_after [] (no_lines text) (BeginsLine_either no_end (weaker never))) (Section_of_line (inl end))
section_at_other text never (never_comes no_end) = never_comes (Section_after [] (no_lines text) (BeginsLine_either no_end never))

field_is_some : (f : Field) (text rest : List ℕ) → FieldLine f text rest → length rest < length text
field_is_some f text rest x =
    let line = one_line f text rest x in
    omega (arith, fields_are_long (f ∷ []) line.0, ap length line.1, length-append (flat_map print_field (f ∷ [])) rest)

section_within : (n : ℕ) (text : List ℕ) → length text < n → Answer Section text
section_within zero text few = absurd (omega arith)
section_within (suc n) text few = elim (field_answer text) [
  | found f rest x ↦ section_more f text rest x (section_within n rest (omega (arith, few, field_is_some f text rest x)))
  | cut_off none may ↦ section_at_cut text none may (newline_answer text)
  | never_comes never ↦ section_at_other text never (newline_answer text)
]

pub section_answer : (text : List ℕ) → Answer Section text
section_answer text = section_within (suc (length text)) text (omega arith)

-- ---- the pieces of a chunked body

-- the trees that are valid, with their bytes
abbrev pub Tree : {A : Type 0} → (A → Type 0) → (A → List ℕ) → Piece A
Tree IsTree print tree text rest = Reads IsTree print text tree rest

pub gap_answer : (text : List ℕ) → Answer (Tree IsGap print_gap) text
gap_answer text =
    answer_map (Bytes (13 ∷ 10 ∷ [])) (Tree IsGap print_gap) (λ t. t) (λ t before rest x. (tt, x)) (λ before h. (tt, h.1, h.2.1)) text (bytes_answer (13 ∷ 10 ∷ []) text)

-- ---- size lines

plain_extension : (b : ℕ) (text : List ℕ) → b ≢ 59 → Answer (Bytes (print_end crlf)) (b ∷ text) → Answer Extension (b ∷ text)
plain_extension b text other (found a rest x) = found None rest (tt, x)
plain_extension b text other (cut_off none may) = cut_off (Extension_absent (b ∷ text) 0 (omega arith) other none) (Extension_without may)
plain_extension b text other (never_comes never) = never_comes (Extension_absent (b ∷ text) 0 (omega arith) other never)

full_extension : (b : ℕ) (text : List ℕ) (end : ℕ) → b ≡ 59 → IsRunAt is_extension_byte (b ∷ text) 1 end → Answer (Bytes (print_end crlf)) (drop end (b ∷ text)) → Answer Extension (b ∷ text)
full_extension b text end is run (found a rest x) = found (Some (slice_range (b ∷ text) 1 end)) rest (Extension_done {buf = b ∷ text} {at = 0} (omega arith) is run rest x)
full_extension b text end is run (cut_off none may) =
    cut_off (Extension_present {buf = b ∷ text} {at = 0} (omega arith) is run {E = ⊤} (Ok Partial) none) (Extension_with {buf = b ∷ text} {at = 0} (omega arith) is run may)
full_extension b text end is run (never_comes never) = never_comes (Extension_present {buf = b ∷ text} {at = 0} (omega arith) is run {E = ⊤} (Err tt) never)

extension_answer : (text : List ℕ) → Answer Extension text
extension_answer [] = cut_off (NotYet_intro λ h. omega (arith, Extension_inside [] 0 h.0 h.1 h.2)) some_extension
extension_answer (b ∷ text) =
    let run = run_at is_extension_byte text in
    elim (cases_eq b 59) [
      | inl is ↦ full_extension b text (suc run.0) is (run_behind is_extension_byte b text run.0 run.1) (bytes_answer (print_end crlf) (drop (suc run.0) (b ∷ text)))
      | inr other ↦ plain_extension b text other (bytes_answer (print_end crlf) (b ∷ text))
    ]

padding_answer : (text : List ℕ) → Answer (Then (Run is_ows) Extension) text
padding_answer text =
    let run = (run_at is_ows text).1 in
    let end = (run_at is_ows text).0 in
    elim (cases_lt end (length text)) [
      | inl inside ↦ answer_next (Run is_ows) Extension (Run_deterministic is_ows) (slice_range text 0 end) text (drop end text) (Run_done run inside) (extension_answer (drop end text))
      | inr past ↦ cut_off (Refutes_first (Run is_ows) Extension (Run_open run past)) (padding_cut (IsRunAt_all run past))
    ]

abbrev AfterDigits : Piece (List ℕ × Option (List ℕ))
AfterDigits = Then (Run is_ows) Extension

long_digits : (text : List ℕ) (end : ℕ) → IsRunAt is_ascii_hexdigit text 0 end → 16 < end → Answer Chunk text
long_digits text end run many = never_comes (Refutes_first HexDigits AfterDigits (HexDigits_long text (omega (arith, many, run.in_range)) λ k below. run.pass k (omega arith) (omega arith)))

digits_at_end : (text : List ℕ) (end : ℕ) → IsRunAt is_ascii_hexdigit text 0 end → length text ≤ end → Answer Chunk text
digits_at_end text end run past = elim (cases_lt 16 end) [
  | inl many ↦ long_digits text end run many
  | inr few ↦ cut_off (Refutes_first HexDigits AfterDigits (HexDigits_open run past)) (digits_cut text (IsRunAt_all run past) (omega arith))
]

digits_inside : (text : List ℕ) (end : ℕ) → IsRunAt is_ascii_hexdigit text 0 end → end < length text → Answer Chunk text
digits_inside text end run inside = elim (cases_lt 16 end) [
  | inl many ↦ long_digits text end run many
  | inr few ↦ elim (cases_lt 0 end) [
    | inl some ↦ answer_next HexDigits AfterDigits HexDigits_deterministic (take end text) text (drop end text) (HexDigits_done run inside some few) (padding_answer (drop end text))
    | inr none ↦ never_comes (Refutes_first HexDigits AfterDigits (HexDigits_empty run inside (omega arith)))
  ]
]

chunk_answer : (text : List ℕ) → Answer Chunk text
chunk_answer text =
    let run = run_at is_ascii_hexdigit text in
    elim (cases_lt run.0 (length text)) [ inl inside ↦ digits_inside text run.0 run.1 inside | inr past ↦ digits_at_end text run.0 run.1 past ]

pub line_answer : (text : List ℕ) → Answer (Tree IsChunkLine print_chunk_line) text
line_answer text =
    answer_map Chunk (Tree IsChunkLine print_chunk_line) chunk_line (λ t before rest x. chunk_from_pieces before t rest x) (λ before h. (_, h.1, chunk_pieces before h.0 h.1 h.2)) text (chunk_answer text)
