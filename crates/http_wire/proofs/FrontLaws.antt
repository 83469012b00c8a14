-- Every stream has a verdict: a head, nothing, the front of a head, a malformed one, or one that is too large.
use Rattle.std.proofs.Common.{◌≡◌, ℕ, codes, get_or, append_assoc, ◌+◌, ◌<◌, ◌≤◌, false, List, [], ◌∷◌, ◌++◌, length, suc, zero, take, drop, refl, sym, ap, subst, ◌∙◌, arith, append-nil, length-append, take-append-drop, inl, inr}
use Rattle.std.specs.Str.{is_utf8}
use Rattle.std.specs.List.{list_all}
use Rattle.std.specs.Prelude.{IsUtf8}
use Rattle.std.proofs.lemmas.Bool.{cases_lt, cases_eq, cases_Bool, both_ways}
use Rattle.std.proofs.lemmas.Str.{IsUtf8-from_is_utf8, is_utf8-from_IsUtf8}
use Rattle.httparse.specs.Grammar.{is_token_byte, is_uri_byte, LineEnd, print_end, print_blank, print_version, RequestHead, print_request, ReadsRequest, HasNoRequest, MayBecomeRequest, NeverHasRequest}
use Rattle.httparse.specs.Pieces.{Piece, Begins, Then, Refutes, NotYet, Never, Completes, is_newline, Newline, BlankLines, Blank, Word, Method, Target, Version, MayBecomeRequestStart, RequestStart, Section}
use Rattle.httparse.proofs.PieceLemmas.{Refutes_first, Refutes_next, Never_intro, NotYet_intro, space_ends_token, Blank_deterministic, Method_deterministic, Target_deterministic, Version_deterministic, RequestStart_deterministic, Word_deterministic}
use Rattle.httparse.proofs.ReadLemmas.{Blank_after, Blank_open, Blank_newline, Target_word, Version_bytes}
use Rattle.httparse.proofs.GrammarLemmas.{request_head, request_from_pieces, ReadsRequest-append}
use Rattle.httparse.proofs.HeadLemmas.{request_not_yet, request_never}
use Rattle.httparse.proofs.OpenLemmas.{letter_is_token, Completes_next, some_newline, BlankLines_after, Version_after_bytes, Version_before_digit, line_blank, line_method, ends_in_target, line_version, request_may_from_line, request_may}
use Rattle.http_wire.specs.Heads.{has_line, IsOpen, Verdict, begins, is_nothing, is_cut, is_malformed, is_too_large, Holds}
use Rattle.http_wire.proofs.HeadLaws.{end_is_some, open_without_line, open_unfinished}
use Rattle.http_wire.proofs.DecidingLaws.{take_few, take_all, Answer, found, cut_off, never_comes, answer_then, WordIs, whole, partly, wrong, word_is, word_answer, newline_answer, bytes_answer}
use Rattle.http_wire.proofs.PartLaws.{section_answer}

-- ---- empty lines

-- the lines, what may be some of them, or neither
data BlankIs (text : List ℕ) : Type 0 where
  past : (ends : List LineEnd) (rest : List ℕ) → Blank ends text rest → BlankIs text
  short : NotYet (Begins Blank) text → Completes BlankLines text → BlankIs text
  bad : Never (Begins Blank) text → BlankIs text

module _ (e : LineEnd) (text middle : List ℕ) (line : Newline e text middle) where
  behind_line : {M : List ℕ → Type 0} → Refutes M (Begins Blank) middle → Refutes M (Begins Blank) text
  behind_line none = Blank_after (e ∷ []) (line ∙ ap (λ (t : List ℕ). t ++ middle) (sym (append-nil (print_end e)))) none

  lines_more : Completes BlankLines middle → Completes BlankLines text
  lines_more may = record {
    more = may.more;
    tree = e ∷ may.tree;
    reads = λ rest.
        ap (λ (t : List ℕ). t ++ (may.more ++ rest)) line ∙ append_assoc (print_end e) middle (may.more ++ rest)
        ∙ ap (λ (t : List ℕ). print_end e ++ t) (may.reads rest) ∙ sym (append_assoc (print_end e) (print_blank may.tree) rest);
  }

  blank_more : BlankIs middle → BlankIs text
  blank_more (past ends rest x) =
      past (e ∷ ends) rest (line ∙ ap (λ (t : List ℕ). print_end e ++ t) x.0 ∙ sym (append_assoc (print_end e) (print_blank ends) rest), x.1)
  blank_more (short none may) = short (behind_line none) (lines_more may)
  blank_more (bad never) = bad (behind_line never)

blank_within : (n : ℕ) (text : List ℕ) → length text < n → BlankIs text
blank_within zero text few = absurd (omega arith)
blank_within (suc n) [] few = short (Blank_open [] 0 (omega arith)) (BlankLines_after [] refl some_newline)
blank_within (suc n) (b ∷ text) few = elim (cases_Bool (is_newline b)) [
  | inr other ↦ past [] (b ∷ text) (refl, other)
  | inl newline ↦ elim (newline_answer (b ∷ text)) [
    | found e rest x ↦ blank_more e (b ∷ text) rest x (blank_within n rest (omega (arith, few, end_is_some e, ap length x, length-append (print_end e) rest)))
    | cut_off none may ↦ short (Blank_newline (b ∷ text) 0 (omega arith) newline none) (BlankLines_after [] refl may)
    | never_comes never ↦ bad (Blank_newline (b ∷ text) 0 (omega arith) newline never)
  ]
]

-- ---- versions

version_digit : (text rest : List ℕ) → text ≡ codes "HTTP/1." ++ rest → Answer Version text
version_digit text [] is = cut_off (NotYet_intro λ h. omega (arith, ap length is, ap length h.2.1, length-append (print_version h.0) h.1)) (Version_before_digit is refl)
version_digit text (b ∷ rest) is = elim (cases_eq b 48) [
  | inl zero_is ↦ found 0 rest (omega arith, is ∙ ap (λ (c : ℕ). codes "HTTP/1." ++ c ∷ rest) zero_is)
  | inr not_zero ↦ elim (cases_eq b 49) [
    | inl one_is ↦ found 1 rest (omega arith, is ∙ ap (λ (c : ℕ). codes "HTTP/1." ++ c ∷ rest) one_is)
    | inr not_one ↦ never_comes (Never_intro λ more h. other more h.0 h.1 not_zero not_one h.2.0 h.2.1)
  ]
]
  where
    other : (more : List ℕ) (minor : ℕ) (after : List ℕ) → (b ≡ 48 → ⊥) → (b ≡ 49 → ⊥) → minor ≤ 1 → text ++ more ≡ print_version minor ++ after → ⊥
    other more minor after not_zero not_one few same =
        let digit : b ≡ 48 + minor = ap (λ (t : List ℕ). get_or t 7 0) (sym (ap (λ (t : List ℕ). t ++ more) is) ∙ same) in
        elim (cases_lt minor 1) [ inl none ↦ not_zero (omega arith) | inr one ↦ not_one (omega arith) ]

version_answer : (text : List ℕ) → Answer Version text
version_answer text = elim (bytes_answer (codes "HTTP/1.") text) [
  | found a rest is ↦ version_digit text rest is
  | cut_off none may ↦ cut_off (Version_bytes none) (Version_after_bytes may)
  | never_comes never ↦ never_comes (Version_bytes never)
]

-- ---- request lines

abbrev AfterTarget : Piece (ℕ × LineEnd)
AfterTarget = Then Version Newline

abbrev AfterMethod : Piece (List ℕ × (ℕ × LineEnd))
AfterMethod = Then Target AfterTarget

abbrev AfterBlank : Piece (List ℕ × (List ℕ × (ℕ × LineEnd)))
AfterBlank = Then Method AfterMethod

-- a request line, what may be one, or neither
data StartIs (text : List ℕ) : Type 0 where
  is_line : (t : List LineEnd × (List ℕ × (List ℕ × (ℕ × LineEnd)))) (rest : List ℕ) → RequestStart t text rest → StartIs text
  may_be_line : NotYet (Begins RequestStart) text → MayBecomeRequestStart text → StartIs text
  no_line : Never (Begins RequestStart) text → StartIs text

-- a target that is no text
never_text : (target text rest : List ℕ) → Word is_uri_byte 32 target text rest → is_utf8 target ≡ false → Never (Begins Target) text
never_text target text rest x not_text = Never_intro λ more h.
    let word = Word_deterministic is_uri_byte 32 refl in
    let same = word.unique target h.0 (text ++ more) (rest ++ more) h.1 (word.append target text rest more x) h.2.0 in
    both_ways (is_utf8 target) not_text (is_utf8-from_IsUtf8 target (subst IsUtf8 (sym same.0) h.2.1))

-- behind the empty lines and the method
module _ (ends : List LineEnd) (method text middle behind : List ℕ) (blank : Blank ends text middle) (word : Method method middle behind) where
  in_target : {M : List ℕ → Type 0} → Refutes M (Begins AfterMethod) behind → Refutes M (Begins RequestStart) text
  in_target none = Refutes_next AfterBlank Blank_deterministic {a = ends} blank (Refutes_next AfterMethod Method_deterministic {a = method} word none)

  version_is : (target after : List ℕ) → Target target behind after → Answer AfterTarget after → StartIs text
  version_is target after x (found b rest y) = is_line (ends, (method, (target, b))) rest (middle, blank, (behind, word, (after, x, y)))
  version_is target after x (cut_off none may) =
      may_be_line (in_target (Refutes_next AfterTarget Target_deterministic {a = target} x none)) (inl (line_version ends method target blank word x may))
  version_is target after x (never_comes never) = no_line (in_target (Refutes_next AfterTarget Target_deterministic {a = target} x never))

  target_is : WordIs is_uri_byte 32 behind → StartIs text
  target_is (whole target after x) = elim (cases_Bool (is_utf8 target)) [
    | inl is_text ↦ version_is target after (x, IsUtf8-from_is_utf8 target is_text) (answer_then Version Newline Version_deterministic some_newline newline_answer after (version_answer after))
    | inr not_text ↦ no_line (in_target (Refutes_first Target AfterTarget (never_text target behind after x not_text)))
  ]
  target_is (partly none all) = may_be_line (in_target (Refutes_first Target AfterTarget (Target_word none))) (inr (ends_in_target ends method behind blank word all))
  target_is (wrong never) = no_line (in_target (Refutes_first Target AfterTarget (Target_word never)))

method_is : (ends : List LineEnd) (text middle : List ℕ) → Blank ends text middle → Answer Method middle → StartIs text
method_is ends text middle blank (found method behind x) = target_is ends method text middle behind blank x (word_is is_uri_byte 32 refl behind)
method_is ends text middle blank (cut_off none may) =
    may_be_line (Refutes_next AfterBlank Blank_deterministic {a = ends} blank (Refutes_first Method AfterMethod none)) (inl (line_method ends blank may))
method_is ends text middle blank (never_comes never) = no_line (Refutes_next AfterBlank Blank_deterministic {a = ends} blank (Refutes_first Method AfterMethod never))

start_is : (text : List ℕ) → StartIs text
start_is text = elim (blank_within (suc (length text)) text (omega arith)) [
  | past ends middle x ↦ method_is ends text middle x (word_answer is_token_byte 32 65 letter_is_token middle (word_is is_token_byte 32 space_ends_token middle))
  | short none may ↦ may_be_line (Refutes_first Blank AfterBlank none) (inl (line_blank may))
  | bad never ↦ no_line (Refutes_first Blank AfterBlank never)
]

-- ---- heads

-- a head, what may be one, or neither
data HeadIs (bytes : List ℕ) : Type 0 where
  is_head : (h : RequestHead) (rest : List ℕ) → ReadsRequest bytes h rest → HeadIs bytes
  may_be_head : HasNoRequest bytes → MayBecomeRequest bytes → HeadIs bytes
  no_head : NeverHasRequest bytes → HeadIs bytes

section_is : (bytes middle : List ℕ) (t : List LineEnd × (List ℕ × (List ℕ × (ℕ × LineEnd)))) → RequestStart t bytes middle → Answer Section middle → HeadIs bytes
section_is bytes middle t x (found s rest y) = is_head (request_head (t, s)) rest (request_from_pieces bytes (t, s) rest (middle, x, y))
section_is bytes middle t x (cut_off none may) =
    may_be_head (request_not_yet (Refutes_next Section RequestStart_deterministic {a = t} x none)) (request_may (Completes_next RequestStart_deterministic {a = t} x may))
section_is bytes middle t x (never_comes never) = no_head (request_never (Refutes_next Section RequestStart_deterministic {a = t} x never))

head_is : (bytes : List ℕ) → HeadIs bytes
head_is bytes = elim (start_is bytes) [
  | is_line t middle x ↦ section_is bytes middle t x (section_answer middle)
  | may_be_line none may ↦ may_be_head (request_not_yet (Refutes_first RequestStart Section none)) (request_may_from_line may)
  | no_line never ↦ no_head (request_never (Refutes_first RequestStart Section never))
]

-- ---- verdicts

abbrev HasVerdict : List ℕ → Type 0
HasVerdict bytes = (v : Verdict) × Holds bytes v

-- of a front, which is all of the bytes or as long as a head may be
module _ (front behind : List ℕ) (few : length front ≤ 16384) (all : length front < 16384 → behind ≡ []) where
  open_front : IsOpen front → HasVerdict (front ++ behind)
  open_front is_open = elim (cases_lt (length front) 16384) [
    | inl less ↦ subst HasVerdict (sym (append-nil front) ∙ ap (λ (b : List ℕ). front ++ b) (sym (all less)))
        (elim (cases_Bool (list_all is_newline front)) [ inl blank ↦ (is_nothing, (less, blank)) | inr some ↦ (is_cut, (less, is_open, some)) ])
    | inr full ↦ (is_too_large, inl (front, behind, refl, omega arith, is_open))
  ]

  head_front : (h : RequestHead) (rest : List ℕ) → ReadsRequest front h rest → HasVerdict (front ++ behind)
  head_front h rest x =
      let reads = ReadsRequest-append front h rest behind x in
      let fits : length (print_request h) ≤ 16384 = omega (arith, few, ap length x.1, length-append (print_request h) rest) in
      elim (cases_lt 64 (length h.fields)) [
        | inl many ↦ (is_too_large, inr (h, rest ++ behind, (reads, fits), many))
        | inr some ↦ (begins h (rest ++ behind), ((reads, fits), some))
      ]

  front_verdict : HeadIs front → HasVerdict (front ++ behind)
  front_verdict (is_head h rest x) = head_front h rest x
  front_verdict (may_be_head none may) = elim (cases_Bool (has_line front)) [
    | inl line ↦ open_front (open_unfinished front line none may)
    | inr no_line_yet ↦ open_front (open_without_line front no_line_yet)
  ]
  front_verdict (no_head never) = elim (cases_Bool (has_line front)) [
    | inl line ↦ (is_malformed, (front, behind, refl, few, (line, never)))
    | inr no_line_yet ↦ open_front (open_without_line front no_line_yet)
  ]

pub has_verdict : (bytes : List ℕ) → HasVerdict bytes
has_verdict bytes = subst HasVerdict (take-append-drop 16384 bytes) (front_verdict (take 16384 bytes) (drop 16384 bytes) (take_few 16384 bytes) (take_all 16384 bytes) (head_is (take 16384 bytes)))
