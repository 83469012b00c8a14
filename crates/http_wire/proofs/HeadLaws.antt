-- Laws of what a parser says of a head.
use Rattle.std.proofs.Common.{◌≡◌, ◌≢◌, ℕ, ◌+◌, ◌*◌, ◌<◌, ◌≤◌, true, false, List, [], ◌∷◌, ◌++◌, length, suc, map, sym, ap, subst, ◌∙◌, arith, length-append, inl, inr}
use Rattle.std.proofs.lemmas.Bool.{false≢true}
use Rattle.std.proofs.lemmas.List.Elements.{All-head, All-tail, All-nil, All-cons}
use Rattle.std.specs.Prelude.{All, Ok, IsUtf8}
use Rattle.std.proofs.lemmas.Bool.Decides.{nat_tests}
use Rattle.std.proofs.lemmas.Str.{IsUtf8-from_ascii}
use Rattle.std.proofs.lemmas.Str.Ascii.{IsAscii-from_all}
use Rattle.httparse.specs.declared.spans.HeaderSpan.{HeaderSpan}
use Rattle.httparse.specs.declared.Status.{Status}
use Rattle.httparse.specs.declared.Status.TheVariants.{Complete, Partial}
use Rattle.httparse.specs.Outcome.{OnPartial}
use Rattle.std.specs.List.{flat_map}
use Rattle.httparse.specs.Grammar.{AllPass, IsToken, is_token_byte, LineEnd, crlf, lf, print_end, Field, print_field, IsField, print_section, print_blank, print_version, RequestHead, print_request, ReadsRequest, HasNoRequest, MayBecomeRequest, NeverHasRequest}
use Rattle.httparse.specs.declared.Error.{Error}
use Rattle.httparse.specs.declared.Error.TheVariants as errors
use Rattle.httparse.specs.Spans.{RequestExceeds, header_bytes, span_bytes, name_and_value}
use Rattle.httparse.proofs.GrammarLemmas.{print_request-append}
use Rattle.http_wire.specs.Heads.{has_line, IsOpen}
use Rattle.http_wire.proofs.LineLaws.{head_has_line, target_has_no_line}

pub open_without_line : (bytes : List ℕ) → has_line bytes ≡ false → IsOpen bytes
open_without_line bytes none =
    (λ h rest reads. false≢true (sym none ∙ head_has_line bytes h rest reads), λ some. absurd (false≢true (sym none ∙ some)))

pub open_unfinished : (bytes : List ℕ) → has_line bytes ≡ true → HasNoRequest bytes → MayBecomeRequest bytes → IsOpen bytes
open_unfinished bytes some none may = (
  none,
  λ _. elim may [
    | inl x ↦ (x.0, x.1, [], x.2)
    | inr ends ↦ absurd (false≢true (sym (target_has_no_line bytes ends) ∙ some))
  ],
)

pub end_is_some : (end : LineEnd) → 1 ≤ length (print_end end)
end_is_some crlf = omega arith
end_is_some lf = omega arith

-- each field has a name, a colon and a line end
field_is_long : (f : Field) → IsField f → 3 ≤ length (print_field f)
field_is_long f is =
    let some = is.name.0 in
    let end = end_is_some f.end in
    simp length-append (omega arith)

pub fields_are_long : (fields : List Field) → All IsField fields → 3 * length fields ≤ length (flat_map print_field fields)
fields_are_long [] all = omega arith
fields_are_long (f ∷ fields) all =
    let more = fields_are_long fields (All-tail IsField f fields all) in
    let one = field_is_long f (All-head IsField f fields all) in
    let both : length (print_field f ++ flat_map print_field fields) ≡ length (print_field f) + length (flat_map print_field fields) = length-append (print_field f) (flat_map print_field fields) in
    let step : 3 * suc (length fields) ≤ length (print_field f ++ flat_map print_field fields) = omega arith in
    step

head_is_long : (h : RequestHead) (rest : List ℕ) → All IsField h.fields → 3 * length h.fields ≤ length (print_request h ++ rest)
head_is_long h rest all =
    let fields = fields_are_long h.fields all in
    let after = print_end h.line_end ++ (print_section h.fields h.last ++ rest) in
    let version = print_version h.minor ++ after in
    let target = h.target ++ 32 ∷ version in
    rw print_request-append (omega (
      arith,
      length-append (flat_map print_field h.fields) (print_end h.last),
      length-append (print_section h.fields h.last) rest,
      length-append (print_end h.line_end) (print_section h.fields h.last ++ rest),
      length-append (print_version h.minor) after,
      length-append h.target (32 ∷ version),
      length-append h.method (32 ∷ target),
      length-append (print_blank h.blank) (h.method ++ 32 ∷ target),
    ))

-- a head has bytes
pub head_is_some : (bytes : List ℕ) (h : RequestHead) (rest : List ℕ) → ReadsRequest bytes h rest → 0 < length (print_request h)
head_is_some bytes h rest reads = omega (
  arith,
  ap length (print_request-append h []),
  length-append (print_request h) [],
  length-append (print_blank h.blank) (h.method ++ 32 ∷ (h.target ++ 32 ∷ (print_version h.minor ++ (print_end h.line_end ++ (print_section h.fields h.last ++ []))))),
  length-append h.method (32 ∷ (h.target ++ 32 ∷ (print_version h.minor ++ (print_end h.line_end ++ (print_section h.fields h.last ++ []))))),
)

-- so the room for fields is never short
pub never_exceeds : (bytes : List ℕ) → length bytes ≤ 16384 → RequestExceeds 8192 bytes → ⊥
never_exceeds bytes few (begin, rest, split, h, reads, many) =
    let long = head_is_long h [] reads.0.fields in
    omega (arith, ap length reads.1, length-append begin (print_end lf), ap length split, length-append begin rest)

-- an error is about the bytes
pub never_after_error : (bytes : List ℕ) (room : ℕ) (e : Error) → length bytes ≤ 16384 → room ≡ 8192
    → (e ≢ errors.TooManyHeaders → NeverHasRequest bytes) → (e ≡ errors.TooManyHeaders → RequestExceeds room bytes) → NeverHasRequest bytes
never_after_error bytes room e few is_room invalid too_many =
    invalid (λ same. never_exceeds bytes few (subst (λ (r : ℕ). RequestExceeds r bytes) is_room (too_many same)))

-- ---- texts of a head

token_is_ascii : (b : ℕ) → is_token_byte b ≡ true → b < 128
unfolding is_token_byte
token_is_ascii b token = grind (arith, nat_tests)

pub token_is_text : (word : List ℕ) → AllPass is_token_byte word → IsUtf8 word
token_is_text word all = IsUtf8-from_ascii word (IsAscii-from_all word (λ k d lt. token_is_ascii _ (all k d lt)))

pub names_are_texts : (bytes : List ℕ) (spans : List HeaderSpan) (fields : List Field)
    → map (header_bytes bytes) spans ≡ map name_and_value fields → All IsField fields → All (λ s. IsUtf8 (span_bytes bytes s.name)) spans
names_are_texts bytes [] fields same all = All-nil _
names_are_texts bytes (s ∷ spans) [] same all = absurd (cc)
names_are_texts bytes (s ∷ spans) (f ∷ fields) same all =
    let heads : header_bytes bytes s ≡ name_and_value f = cc in
    let tails : map (header_bytes bytes) spans ≡ map name_and_value fields = cc in
    All-cons (λ (t : HeaderSpan). IsUtf8 (span_bytes bytes t.name)) s spans
    (subst IsUtf8 (sym (λ i. (heads i).0)) (token_is_text f.name (All-head IsField f fields all).name.1))
    (names_are_texts bytes spans fields tails (All-tail IsField f fields all))

pub method_is_text : (bytes method : List ℕ) → method ≡ bytes → IsToken bytes → IsUtf8 method
method_is_text bytes method same token = subst IsUtf8 (sym same) (token_is_text bytes token.1)

-- ---- what a parser answered

pub on_partial : {A : Type 0} (s : Status A) (P : Type 0) → s ≡ Partial → OnPartial {A = A} {E = Error} (Ok s) P → P
on_partial (Complete a) P same x = absurd (cc)
on_partial Partial P same x = x
