-- Each piece of the grammar is there, may still come, or never comes: one of the three holds of any text.
use Rattle.std.proofs.Common.{◌≡◌, ℕ, ◌+◌, ◌<◌, ◌≤◌, Bool, true, false, List, [], ◌∷◌, ◌++◌, length, suc, zero, get_or, take, drop, slice_range, refl, sym, ap, subst, ◌∙◌, arith, length-take, inl, inr, ◌⊎◌}
use Rattle.std.proofs.lemmas.Bool.{cases_lt, cases_eq, cases_Bool}
use Rattle.std.proofs.lemmas.List.{drop_more, drop_all}
use Rattle.httparse.specs.Grammar.{AllPass, LineEnd, crlf, lf}
use Rattle.httparse.specs.Pieces.{IsRunAt, Piece, Begins, Then, NotYet, Never, Completes, Bytes, Newline, Word}
use Rattle.httparse.proofs.RunLemmas.{IsRunAt_pass, length-slice_range, drop_split}
use Rattle.httparse.proofs.PieceLemmas.{IsDeterministic, Refutes_by, Refutes_first, Refutes_next, Never_intro, NotYet_intro}
use Rattle.httparse.proofs.ReadLemmas.{Word_open, Word_wrong}
use Rattle.httparse.proofs.OpenLemmas.{Completes_first, Completes_next, some_newline, some_bytes, Newline_after_cr, IsRunAt_all, Word_cut}

-- ---- the front of some bytes

pub take_few : (n : ℕ) (bytes : List ℕ) → length (take n bytes) ≤ n
take_few n bytes = omega (arith, length-take n bytes)

pub take_all : (n : ℕ) (bytes : List ℕ) → length (take n bytes) < n → drop n bytes ≡ []
take_all n bytes short = drop_all n bytes (omega (arith, short, length-take n bytes))

-- ---- answers

-- what is known of the front of a text
pub data Answer {A : Type 0} (G : Piece A) (text : List ℕ) : Type 0 where
  found : (a : A) (rest : List ℕ) → G a text rest → Answer G text
  cut_off : NotYet (Begins G) text → Completes G text → Answer G text
  never_comes : Never (Begins G) text → Answer G text

pub weaker : {H : List ℕ → Type 0} {text : List ℕ} → Never H text → NotYet H text
weaker never = record { none = λ more follows h. never.none more tt h }

-- the same piece in other words
pub answer_map : {A B : Type 0} (G : Piece A) (H : Piece B) (f : A → B) → ((a : A) (text rest : List ℕ) → G a text rest → H (f a) text rest)
    → ((text : List ℕ) → Begins H text → Begins G text) → (text : List ℕ) → Answer G text → Answer H text
answer_map G H f to back text (found a rest x) = found (f a) rest (to a text rest x)
answer_map G H f to back text (cut_off none may) =
    cut_off (Refutes_by (λ more. back (text ++ more)) none) (record { more = may.more; tree = f may.tree; reads = λ rest. to may.tree (text ++ (may.more ++ rest)) rest (may.reads rest) })
answer_map G H f to back text (never_comes never) = never_comes (Refutes_by (λ more. back (text ++ more)) never)

-- one piece, and what is known of the next
pub answer_next : {A B : Type 0} (G : Piece A) (H : Piece B) → IsDeterministic G → (a : A) (text middle : List ℕ) → G a text middle → Answer H middle → Answer (Then G H) text
answer_next G H det a text middle x (found b rest y) = found (a, b) rest (middle, x, y)
answer_next G H det a text middle x (cut_off none may) = cut_off (Refutes_next H det {a = a} x none) (Completes_next det {a = a} x may)
answer_next G H det a text middle x (never_comes never) = never_comes (Refutes_next H det {a = a} x never)

pub answer_then : {A B : Type 0} (G : Piece A) (H : Piece B) → IsDeterministic G → Completes H [] → ((text : List ℕ) → Answer H text) → (text : List ℕ) → Answer G text → Answer (Then G H) text
answer_then G H det some next text (found a rest x) = answer_next G H det a text rest x (next rest)
answer_then G H det some next text (cut_off none may) = cut_off (Refutes_first G H none) (Completes_first may some)
answer_then G H det some next text (never_comes never) = never_comes (Refutes_first G H never)

-- ---- runs

run_none : (test : ℕ → Bool) (b : ℕ) (text : List ℕ) → test b ≡ false → IsRunAt test (b ∷ text) 0 0
run_none test b text fails = record { ordered = omega arith; in_range = omega arith; pass = λ k some below. absurd (omega arith); stops = λ inside. fails }

pub run_behind : (test : ℕ → Bool) (b : ℕ) (text : List ℕ) (end : ℕ) → IsRunAt test text 0 end → IsRunAt test (b ∷ text) 1 (suc end)
run_behind test b text end run = record {
  ordered = omega (arith, run.ordered);
  in_range = omega (arith, run.in_range);
  pass = pass;
  stops = λ inside. run.stops (omega arith);
}
  where
    pass : (k : ℕ) → 1 ≤ k → k < suc end → test (get_or (b ∷ text) k 0) ≡ true
    pass zero some below = absurd (omega arith)
    pass (suc k) some below = run.pass k (omega arith) (omega arith)

run_more : (test : ℕ → Bool) (b : ℕ) (text : List ℕ) (end : ℕ) → test b ≡ true → IsRunAt test (b ∷ text) 1 (suc end) → IsRunAt test (b ∷ text) 0 (suc end)
run_more test b text end passes run = record { ordered = omega arith; in_range = run.in_range; pass = pass; stops = run.stops }
  where
    pass : (k : ℕ) → 0 ≤ k → k < suc end → test (get_or (b ∷ text) k 0) ≡ true
    pass zero some below = passes
    pass (suc k) some below = run.pass (suc k) (omega arith) below

pub run_at : (test : ℕ → Bool) (text : List ℕ) → (end : ℕ) × IsRunAt test text 0 end
run_at test [] = (0, record { ordered = omega arith; in_range = omega arith; pass = λ k some below. absurd (omega arith); stops = λ inside. absurd (omega arith) })
run_at test (b ∷ text) =
    let more = run_at test text in
    elim (cases_Bool (test b)) [ inl passes ↦ (suc more.0, run_more test b text more.0 passes (run_behind test b text more.0 more.1)) | inr fails ↦ (0, run_none test b text fails) ]

-- ---- words

-- a word and its stop, bytes of a word alone, or neither
pub data WordIs (test : ℕ → Bool) (stop : ℕ) (text : List ℕ) : Type 0 where
  whole : (word rest : List ℕ) → Word test stop word text rest → WordIs test stop text
  partly : NotYet (Begins (Word test stop)) text → AllPass test text → WordIs test stop text
  wrong : Never (Begins (Word test stop)) text → WordIs test stop text

pub word_is : (test : ℕ → Bool) (stop : ℕ) → test stop ≡ false → (text : List ℕ) → WordIs test stop text
word_is test stop fails text =
    let run = (run_at test text).1 in
    let end = (run_at test text).0 in
    elim (cases_lt end (length text)) [
      | inl inside ↦ elim (cases_eq (get_or text end 0) stop) [
        | inl is ↦ elim (cases_lt 0 end) [
          | inl some ↦ whole (slice_range text 0 end) (drop (end + 1) text) (
            omega (arith, some, length-slice_range text 0 end run.ordered run.in_range),
            IsRunAt_pass run,
            drop_split text 0 end run.ordered ∙ ap (λ (t : List ℕ). slice_range text 0 end ++ t) (drop_more text end 0 inside ∙ ap (λ (b : ℕ). b ∷ drop (end + 1) text) is),
          )
          | inr none ↦ wrong (Word_wrong stop fails run inside λ same some. omega (arith, none, some, length-slice_range text 0 end run.ordered run.in_range))
        ]
        | inr other ↦ wrong (Word_wrong stop fails run inside λ same some. other same)
      ]
      | inr past ↦ partly (Word_open stop fails run past) (IsRunAt_all run past)
    ]

pub word_answer : (test : ℕ → Bool) (stop b : ℕ) → test b ≡ true → (text : List ℕ) → WordIs test stop text → Answer (Word test stop) text
word_answer test stop b passes text (whole word rest x) = found word rest x
word_answer test stop b passes text (partly none all) = cut_off none (Word_cut test stop b passes all)
word_answer test stop b passes text (wrong never) = never_comes never

-- ---- line ends

-- the first two bytes of a text with a line end
newline_bytes : (e : LineEnd) (text rest : List ℕ) → Newline e text rest → (get_or text 0 0 ≡ 10) ⊎ ((get_or text 0 0 ≡ 13) × (get_or text 1 0 ≡ 10))
newline_bytes crlf text rest x = inr (ap (λ (t : List ℕ). get_or t 0 0) x, ap (λ (t : List ℕ). get_or t 1 0) x)
newline_bytes lf text rest x = inl (ap (λ (t : List ℕ). get_or t 0 0) x)

newline_at_cr : (text : List ℕ) → Answer Newline (13 ∷ text)
newline_at_cr [] = cut_off (NotYet_intro λ h. elim (newline_bytes h.0 (13 ∷ []) h.1 h.2) [ inl is ↦ omega (arith, is) | inr is ↦ omega (arith, is.1) ]) (Newline_after_cr refl)
newline_at_cr (c ∷ text) = elim (cases_eq c 10) [
  | inl is ↦ found crlf text (ap (λ (b : ℕ). 13 ∷ b ∷ text) is)
  | inr other ↦ never_comes (Never_intro λ more h. elim (newline_bytes h.0 (13 ∷ c ∷ (text ++ more)) h.1 h.2) [ inl is ↦ omega (arith, is) | inr is ↦ other is.1 ])
]

pub newline_answer : (text : List ℕ) → Answer Newline text
newline_answer [] = cut_off (NotYet_intro λ h. elim (newline_bytes h.0 [] h.1 h.2) [ inl is ↦ omega (arith, is) | inr is ↦ omega (arith, is.0) ]) some_newline
newline_answer (b ∷ text) = elim (cases_eq b 10) [
  | inl is ↦ found lf text (ap (λ (c : ℕ). c ∷ text) is)
  | inr not_lf ↦ elim (cases_eq b 13) [
    | inl is ↦ subst (λ (c : ℕ). Answer Newline (c ∷ text)) (sym is) (newline_at_cr text)
    | inr not_cr ↦ never_comes (Never_intro λ more h. elim (newline_bytes h.0 (b ∷ (text ++ more)) h.1 h.2) [ inl is ↦ not_lf is | inr is ↦ not_cr is.0 ])
  ]
]

-- ---- bytes that are given

byte_more : (b : ℕ) (bytes text : List ℕ) → Answer (Bytes bytes) text → Answer (Bytes (b ∷ bytes)) (b ∷ text)
byte_more b bytes text (found a rest x) = found tt rest (ap (λ (t : List ℕ). b ∷ t) x)
byte_more b bytes text (cut_off none may) = cut_off (Refutes_by (λ more h. (tt, h.1, ap (drop 1) h.2)) none) (record { more = may.more; tree = tt; reads = λ rest. ap (λ (t : List ℕ). b ∷ t) (may.reads rest) })
byte_more b bytes text (never_comes never) = never_comes (Refutes_by (λ more h. (tt, h.1, ap (drop 1) h.2)) never)

pub bytes_answer : (bytes text : List ℕ) → Answer (Bytes bytes) text
bytes_answer [] text = found tt text refl
bytes_answer (b ∷ bytes) [] = cut_off (NotYet_intro λ h. omega (arith, ap length h.2)) (some_bytes (b ∷ bytes))
bytes_answer (b ∷ bytes) (c ∷ text) = elim (cases_eq c b) [
  | inl is ↦ subst (λ (d : ℕ). Answer (Bytes (b ∷ bytes)) (d ∷ text)) (sym is) (byte_more b bytes text (bytes_answer bytes text))
  | inr other ↦ never_comes (Never_intro λ more h. other (ap (λ (t : List ℕ). get_or t 0 0) h.2))
]
