-- Facts of the pieces of a chunked body, as the parser answers them.
use Rattle.std.proofs.Common.{◌≡◌, ◌≢◌, ℕ, ◌<◌, ◌≤◌, List, [], ◌∷◌, length, drop, refl, sym, ap, subst, ◌∙◌, arith, append-nil, length-append, inl, Ok, Some}
use Rattle.std.specs.List.{flat_map}
use Rattle.httparse.specs.declared.Error.{Error}
use Rattle.httparse.specs.declared.Error.TheVariants as errors
use Rattle.httparse.specs.declared.Status.{Status}
use Rattle.httparse.specs.declared.Status.TheVariants.{Complete, Partial}
use Rattle.httparse.specs.Grammar.{ChunkLine, print_chunk_line, print_end, lf, LineEnd, Field, print_field, print_section, HasNoSection, MayBecomeSection, NeverHasSection}
use Rattle.httparse.specs.Outcome.{IfComplete}
use Rattle.httparse.specs.Spans.{IsChunkLineAt, IsSectionAt, SectionExceeds}
use Rattle.httparse.specs.declared.spans.HeaderSpan.{HeaderSpan}
use Rattle.http_wire.specs.declared.body.BodyState.{BodyState}
use Rattle.http_wire.specs.declared.body.BodyState.TheVariants as states
use Rattle.http_wire.specs.declared.body.Piece.TheVariants as pieces
use Rattle.http_wire.specs.Bodies.{Section, print_trailer, after_size, IsCutAt, IsBadAt}
use Rattle.http_wire.specs.InnerPieces.{JudgesPiece}
use Rattle.http_wire.proofs.HeadLaws.{end_is_some, fields_are_long}

-- ---- the gap

pub gap_open_at_none : (bytes : List ℕ) → length bytes < 1 → IsCutAt pieces.Gap bytes
gap_open_at_none [] short = (omega arith, λ tree rest reads. absurd (cc (reads.1)), (13 ∷ 10 ∷ [], tt, [], (tt, refl)))
gap_open_at_none (x ∷ bytes) short = absurd (omega arith)

pub gap_open_at_cr : (bytes : List ℕ) → bytes ≡ 13 ∷ [] → IsCutAt pieces.Gap bytes
gap_open_at_cr bytes is =
    subst (IsCutAt pieces.Gap) (sym is) (omega arith, λ tree rest reads. absurd (cc (reads.1)), (10 ∷ [], tt, [], (tt, refl)))

-- ---- the size line

pub line_is_some : (line : ChunkLine) → 2 ≤ length (print_chunk_line line)
unfolding print_chunk_line
line_is_some line = simp length-append (omega arith)

pub line_passes : (bytes : List ℕ) (count size : ℕ) (next : BodyState) (line : ChunkLine) → IsChunkLineAt bytes count size line → length bytes ≤ 1024 → next ≡ after_size size
    → JudgesPiece (Ok (Some (next, count))) pieces.Line bytes
line_passes bytes count size next line at few is =
    let long = length-append (print_chunk_line line) (drop count bytes) in
    let same = ap length at.reads.1 in
    let some = line_is_some line in (
      (line, (at.reads, omega (arith, long, same)), is ∙ ap after_size at.size_is),
      omega (arith, some, at.len_is),
      omega (arith, long, same, at.len_is),
    )

-- ---- the trailer

section_is_some : (section : Section) → 1 ≤ length (print_trailer section)
section_is_some section = let end = end_is_some section.1 in omega (arith, length-append (flat_map print_field section.0) (print_end section.1))

pub trailer_passes : (bytes : List ℕ) (spans : List HeaderSpan) (count n : ℕ) (fields : List Field) (last : LineEnd) → IsSectionAt bytes 0 spans count n fields last
    → length bytes ≤ 16384 → JudgesPiece (Ok (Some (states.Done, count))) pieces.Trailer bytes
trailer_passes bytes spans count n fields last at few =
    let long = length-append (print_section fields last) (drop count bytes) in
    let same = ap length at.reads.1 in
    let some = section_is_some (fields, last) in (
      ((fields, last), (at.reads, omega (arith, long, same)), refl),
      omega (arith, some, at.len_is),
      omega (arith, long, same, at.len_is),
    )

pub trailer_open : (bytes : List ℕ) → length bytes < 16384 → HasNoSection bytes → MayBecomeSection bytes → IsCutAt pieces.Trailer bytes
trailer_open bytes short none may =
    (short, λ section rest reads. none section.0 section.1 rest reads, (may.0, (may.1, may.2), [], may.3))

never_exceeds : (bytes : List ℕ) → length bytes ≤ 16384 → SectionExceeds 8192 bytes → ⊥
never_exceeds bytes few (begin, rest, split, fields, reads, many) =
    omega (
      arith,
      fields_are_long fields reads.0,
      ap length reads.1,
      length-append (print_section fields lf) [],
      length-append (flat_map print_field fields) (print_end lf),
      length-append begin (print_end lf),
      ap length split,
      length-append begin rest,
    )

pub trailer_bad : (bytes : List ℕ) (room : ℕ) (e : Error) → length bytes ≤ 16384 → room ≡ 8192
    → (e ≢ errors.TooManyHeaders → NeverHasSection bytes) → (e ≡ errors.TooManyHeaders → SectionExceeds room bytes) → IsBadAt pieces.Trailer bytes
trailer_bad bytes room e few is_room invalid too_many =
    let never = invalid (λ same. never_exceeds bytes few (subst (λ (r : ℕ). SectionExceeds r bytes) is_room (too_many same))) in
    (bytes, [], sym (append-nil bytes), few, inl (λ more section rest reads. never more section.0 section.1 rest reads))

-- ---- what a parser answered

pub if_complete : {A : Type 0} (E : Type 0) (s : Status A) (a : A) (P : A → Type 0) → s ≡ Complete a → IfComplete {A = A} {E = E} (Ok s) P → P a
if_complete E (Complete b) a P same x = let is : b ≡ a = cc in subst P is x
if_complete E Partial a P same x = absurd (cc)
