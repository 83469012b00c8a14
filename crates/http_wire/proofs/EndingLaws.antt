-- Every stream has its messages: a reader makes something of any bytes, and any bytes have a verdict.
use Rattle.std.proofs.Common.{◌≡◌, ℕ, ◌-◌, if◌then◌else◌, ◌==◌, ◌<◌, ◌≤◌, Bool, true, false, List, [], ◌∷◌, ◌++◌, length, suc, zero, take, drop, refl, sym, ap, subst, ◌∙◌, arith, append-nil, length-append, length-drop, take-append-drop, inl, inr, ◌⊎◌, Option, Some, None}
use Rattle.std.proofs.lemmas.Bool.{cases_lt, cases_Bool}
use Rattle.httparse.specs.Grammar.{IsChunkLine, print_chunk_line, chunk_size, RequestHead, print_request}
use Rattle.httparse.proofs.PieceLemmas.{NotYet_elim, Never_elim}
use Rattle.http_wire.specs.declared.body.BodyState.{BodyState}
use Rattle.http_wire.specs.declared.body.BodyState.TheVariants as states
use Rattle.http_wire.specs.declared.body.Piece.{Piece}
use Rattle.http_wire.specs.declared.body.Piece.TheVariants as pieces
use Rattle.http_wire.specs.Heads.{Verdict, Holds, begins, is_nothing, is_cut, is_too_large}
use Rattle.http_wire.specs.Heads as heads
use Rattle.http_wire.specs.Filling.{Filling, within, is_too_long, Fills, passes, stops_within, goes_within}
use Rattle.http_wire.specs.Messages.{Message, body_start, is_last, Limits, behind_first, ReadsBody, ReadsMessage, Ending, closed_before, is_complete, is_broken_off, is_no_message, has_large_head, has_long_body, Messages}
use Rattle.http_wire.proofs.FillingLaws.{fills_runs}
use Rattle.http_wire.proofs.MessageLaws.{outcome_of}
use Rattle.http_wire.specs.Bodies.{Reads, HasPiece, IsBadPiece, IsCutPiece, IsGap, print_gap, IsSection, print_trailer, after_size, Passes, IsBadAt, IsCutAt, Outcome, ends_before, is_cut_short, is_malformed, Goes, Stops, Runs, stops, goes, due}
use Rattle.http_wire.proofs.HeadLaws.{head_is_some}
use Rattle.http_wire.proofs.FrontLaws.{has_verdict}
use Rattle.http_wire.proofs.PieceLaws.{HasPiece-append}
use Rattle.http_wire.proofs.BodyLaws.{whole_is_done}
use Rattle.http_wire.proofs.GrammarFacts.{line_is_some}
use Rattle.http_wire.proofs.DecidingLaws.{take_few, take_all, Answer, found, cut_off, never_comes}
use Rattle.http_wire.proofs.PartLaws.{Tree, section_answer, gap_answer, line_answer}

-- ---- a piece of at most so many bytes

module _ {A : Type 0} (Ok : A → Type 0) (print : A → List ℕ) where
  abbrev PieceIs : ℕ → List ℕ → Type 0
  PieceIs limit bytes = ((tree : A) × (rest : List ℕ) × HasPiece Ok print limit bytes tree rest) ⊎ IsBadPiece Ok print limit bytes ⊎ IsCutPiece Ok print limit bytes

  front_has : (limit : ℕ) (front behind : List ℕ) (tree : A) (rest : List ℕ) → length front ≤ limit → Reads Ok print front tree rest → HasPiece Ok print limit (front ++ behind) tree (rest ++ behind)
  front_has limit front behind tree rest few reads =
      HasPiece-append Ok print limit front tree rest behind (reads, omega (arith, few, ap length reads.1, length-append (print tree) rest))

  -- what is known of a front, as long as the piece may be, or all of the bytes
  front_is : (limit : ℕ) (front behind : List ℕ) → length front ≤ limit → (length front < limit → behind ≡ []) → Answer (Tree Ok print) front → PieceIs limit (front ++ behind)
  front_is limit front behind few all (found tree rest reads) = inl (tree, rest ++ behind, front_has limit front behind tree rest few reads)
  front_is limit front behind few all (never_comes never) =
      inr (inl (front, behind, refl, few, inl λ more tree rest reads. Never_elim never more (tree, rest, reads)))
  front_is limit front behind few all (cut_off none may) = elim (cases_lt (length front) limit) [
    | inl short ↦ subst (PieceIs limit) (sym (append-nil front) ∙ ap (λ (b : List ℕ). front ++ b) (sym (all short)))
        (inr (inr (short, λ tree rest reads. NotYet_elim none (tree, rest, reads), (may.more ++ [], may.tree, [], may.reads []))))
    | inr full ↦ inr (inl (front, behind, refl, few, inr (omega arith, λ tree rest reads. NotYet_elim none (tree, rest, reads))))
  ]

  piece_is : (limit : ℕ) (bytes : List ℕ) → ((text : List ℕ) → Answer (Tree Ok print) text) → PieceIs limit bytes
  piece_is limit bytes answer = subst (PieceIs limit) (take-append-drop limit bytes) (front_is limit (take limit bytes) (drop limit bytes) (take_few limit bytes) (take_all limit bytes) (answer (take limit bytes)))

-- ---- a body

-- a reader that stands there makes something of the bytes
abbrev Ends : BodyState → List ℕ → Type 0
Ends state bytes = (decoded : List ℕ) × (outcome : Outcome) × Runs state bytes decoded outcome

ends_on : (state : BodyState) (bytes : List ℕ) (next : BodyState) (first rest : List ℕ) → Goes state bytes next first rest → Ends next rest → Ends state bytes
ends_on state bytes next first rest x (decoded, outcome, run) = (first ++ decoded, outcome, goes state bytes (first ++ decoded) outcome next first rest decoded x refl run)

ends_at : (state : BodyState) (bytes decoded : List ℕ) (outcome : Outcome) → Stops state bytes decoded outcome → Ends state bytes
ends_at state bytes decoded outcome x = (decoded, outcome, stops state bytes decoded outcome x)

done_ends : (bytes : List ℕ) → Ends states.Done bytes
done_ends bytes = ends_at states.Done bytes [] (ends_before bytes) (refl, refl)

fixed_ends : (n : ℕ) (bytes : List ℕ) → Ends (states.Fixed n) bytes
fixed_ends n bytes = elim (cases_lt (length bytes) n) [
  | inl short ↦ ends_at (states.Fixed n) bytes bytes is_cut_short (short, refl, refl)
  | inr long ↦ ends_on (states.Fixed n) bytes states.Done (take n bytes) (drop n bytes) (long, refl, refl, refl) (done_ends (drop n bytes))
]

bad_ends : (piece : Piece) (bytes : List ℕ) → IsBadAt piece bytes → Ends (states.Before piece) bytes
bad_ends piece bytes x = ends_at (states.Before piece) bytes [] is_malformed (refl, inl (x, refl))

cut_ends : (piece : Piece) (bytes : List ℕ) → IsCutAt piece bytes → Ends (states.Before piece) bytes
cut_ends piece bytes x = ends_at (states.Before piece) bytes [] is_cut_short (refl, inr (x, refl))

trailer_ends : (bytes : List ℕ) → Ends (states.Before pieces.Trailer) bytes
trailer_ends bytes = elim (piece_is IsSection print_trailer 16384 bytes section_answer) [
  | inl (section, rest, x) ↦ ends_on (states.Before pieces.Trailer) bytes states.Done [] rest ((section, x, refl), refl) (done_ends rest)
  | inr (inl bad) ↦ bad_ends pieces.Trailer bytes bad
  | inr (inr cut) ↦ cut_ends pieces.Trailer bytes cut
]

-- where each line of so many bytes at most ends
abbrev LinesEnd : ℕ → Type 0
LinesEnd n = (bytes : List ℕ) → length bytes < n → Ends (states.Before pieces.Line) bytes

gap_ends : (n : ℕ) (bytes : List ℕ) → LinesEnd n → length bytes < n → Ends (states.Before pieces.Gap) bytes
gap_ends n bytes lines few = elim (piece_is IsGap print_gap 2 bytes gap_answer) [
  | inl (tree, rest, x) ↦ ends_on (states.Before pieces.Gap) bytes (states.Before pieces.Line) [] rest ((x, refl), refl)
      (lines rest (omega (arith, few, ap length x.0.1, length-append (print_gap tree) rest)))
  | inr (inl bad) ↦ bad_ends pieces.Gap bytes bad
  | inr (inr cut) ↦ cut_ends pieces.Gap bytes cut
]

data_ends : (n size : ℕ) (bytes : List ℕ) → LinesEnd n → length bytes < n → Ends (states.Data size) bytes
data_ends n size bytes lines few = elim (cases_lt (length bytes) size) [
  | inl short ↦ ends_at (states.Data size) bytes bytes is_cut_short (short, refl, refl)
  | inr long ↦ ends_on (states.Data size) bytes (states.Before pieces.Gap) (take size bytes) (drop size bytes) (long, refl, refl, refl)
      (gap_ends n (drop size bytes) lines (omega (arith, few, length-drop size bytes)))
]

sized_ends : (n size : ℕ) (bytes : List ℕ) → LinesEnd n → length bytes < n → Ends (after_size size) bytes
sized_ends n size bytes lines few = by_test (size == 0)
  where
    by_test : (v : Bool) → Ends (if v then states.Before pieces.Trailer else states.Data size) bytes
    by_test true = trailer_ends bytes
    by_test false = data_ends n size bytes lines few

lines_end : (n : ℕ) → LinesEnd n
lines_end zero bytes few = absurd (omega arith)
lines_end (suc n) bytes few = elim (piece_is IsChunkLine print_chunk_line 1024 bytes line_answer) [
  | inl (line, rest, x) ↦ ends_on (states.Before pieces.Line) bytes (after_size (chunk_size line)) [] rest ((line, x, refl), refl)
      (sized_ends n (chunk_size line) rest (lines_end n) (omega (arith, few, line_is_some line, ap length x.0.1, length-append (print_chunk_line line) rest)))
  | inr (inl bad) ↦ bad_ends pieces.Line bytes bad
  | inr (inr cut) ↦ cut_ends pieces.Line bytes cut
]

body_ends : (state : BodyState) (bytes : List ℕ) → Ends state bytes
body_ends (states.Fixed n) bytes = fixed_ends n bytes
body_ends (states.Data n) bytes = data_ends (suc (length bytes)) n bytes (lines_end (suc (length bytes))) (omega arith)
body_ends (states.Before pieces.Gap) bytes = gap_ends (suc (length bytes)) bytes (lines_end (suc (length bytes))) (omega arith)
body_ends (states.Before pieces.Line) bytes = lines_end (suc (length bytes)) bytes (omega arith)
body_ends (states.Before pieces.Trailer) bytes = trailer_ends bytes
body_ends states.Done bytes = done_ends bytes
body_ends states.Refused bytes = ends_at states.Refused bytes [] is_malformed (refl, refl)

-- ---- what stands behind a body

passes_less : (piece : Piece) (bytes : List ℕ) (next : BodyState) (rest : List ℕ) → Passes piece bytes next rest → length rest ≤ length bytes
passes_less pieces.Gap bytes next rest (has, is) = omega (arith, ap length has.0.1, length-append (print_gap tt) rest)
passes_less pieces.Line bytes next rest (line, has, is) = omega (arith, ap length has.0.1, length-append (print_chunk_line line) rest)
passes_less pieces.Trailer bytes next rest (section, has, is) = omega (arith, ap length has.0.1, length-append (print_trailer section) rest)

goes_less : (state : BodyState) (bytes : List ℕ) (next : BodyState) (first rest : List ℕ) → Goes state bytes next first rest → length rest ≤ length bytes
goes_less (states.Fixed n) bytes next first rest x = omega (arith, ap length x.3, length-drop n bytes)
goes_less (states.Data n) bytes next first rest x = omega (arith, ap length x.3, length-drop n bytes)
goes_less (states.Before piece) bytes next first rest x = passes_less piece bytes next rest x.0
goes_less states.Done bytes next first rest x = absurd x
goes_less states.Refused bytes next first rest x = absurd x

runs_less : (state : BodyState) (bytes decoded : List ℕ) (outcome : Outcome) (rest : List ℕ) → outcome ≡ ends_before rest → Runs state bytes decoded outcome → length rest ≤ length bytes
runs_less state bytes decoded outcome rest is (stops _ _ _ _ x) =
    let same = whole_is_done state bytes decoded rest (subst (Stops state bytes decoded) is x) in
    omega (arith, ap length same.2)
runs_less state bytes decoded outcome rest is (goes _ _ _ _ next first behind more x parts run) =
    omega (arith, goes_less state bytes next first behind x, runs_less next behind more outcome rest is run)

-- ---- a body of which so many bytes may come

abbrev HasReading : Option ℕ → BodyState → List ℕ → Type 0
HasReading limit state bytes = (decoded : List ℕ) × (filling : Filling) × ReadsBody limit state bytes decoded filling

filling_of : (most : ℕ) (state : BodyState) (bytes decoded : List ℕ) (outcome : Outcome) → Runs state bytes decoded outcome → (given : List ℕ) × (filling : Filling) × Fills most state bytes given filling
filling_of most state bytes decoded outcome (stops _ _ _ _ x) = elim (cases_lt most (due state)) [
  | inl over ↦ ([], is_too_long, passes most state bytes [] is_too_long over refl refl)
  | inr few ↦ (decoded, within outcome, stops_within most state bytes decoded (within outcome) outcome few x refl)
]
filling_of most state bytes decoded outcome (goes _ _ _ _ next first rest more x is run) = elim (cases_lt most (due state)) [
  | inl over ↦ ([], is_too_long, passes most state bytes [] is_too_long over refl refl)
  | inr few ↦
      let (given, filling, fills) = filling_of (most - length first) next rest more outcome run in
      (first ++ given, filling, goes_within most state bytes (first ++ given) filling next first rest given few x refl fills)
]

body_reads : (limit : Option ℕ) (state : BodyState) (bytes : List ℕ) → HasReading limit state bytes
body_reads (Some most) state bytes =
    let (decoded, outcome, run) = body_ends state bytes in
    filling_of most state bytes decoded outcome run
body_reads None state bytes =
    let (decoded, outcome, run) = body_ends state bytes in
    (decoded, within outcome, (outcome, run, refl))

reads_less : (limit : Option ℕ) (state : BodyState) (bytes decoded rest : List ℕ) → ReadsBody limit state bytes decoded (within (ends_before rest)) → length rest ≤ length bytes
reads_less (Some most) state bytes decoded rest x =
    runs_less state bytes decoded (ends_before rest) rest refl (fills_runs most state bytes decoded (within (ends_before rest)) (ends_before rest) refl x)
reads_less None state bytes decoded rest (outcome, run, is) = runs_less state bytes decoded outcome rest (outcome_of rest outcome is) run

-- ---- messages

abbrev HasMessages : Limits → List ℕ → Type 0
HasMessages limits bytes = (messages : List Message) × (ending : Ending) × Messages limits bytes messages ending

message_then : (limits : Limits) (bytes : List ℕ) (m : Message) (rest : List ℕ) → ReadsMessage (limits 0 m.head) bytes m rest → HasMessages (behind_first limits) rest → HasMessages limits bytes
message_then limits bytes m rest reads (messages, ending, more) = elim (cases_Bool (is_last m)) [
  | inl last ↦ (m ∷ [], closed_before rest, (rest, reads, inl (last, refl, refl)))
  | inr goes_on ↦ (m ∷ messages, ending, (rest, reads, inr (goes_on, more)))
]

-- each stream of so few bytes has them
abbrev AllHaveMessages : ℕ → Type 0
AllHaveMessages n = (limits : Limits) (bytes : List ℕ) → length bytes < n → HasMessages limits bytes

body_then : (n : ℕ) (limits : Limits) (bytes : List ℕ) (h : RequestHead) (behind : List ℕ) → AllHaveMessages n → length bytes < suc n → Holds bytes (begins h behind)
    → HasReading (limits 0 h) (body_start h) behind → HasMessages limits bytes
body_then n limits bytes h behind others few x (decoded, within (ends_before rest), run) =
    let head : 0 < length (print_request h) = head_is_some bytes h behind x.0.0 in
    let less : length rest ≤ length behind = reads_less (limits 0 h) (body_start h) behind decoded rest run in
    message_then limits bytes (record { head = h; body = decoded }) rest (behind, x, run)
    (others (behind_first limits) rest (omega (arith, few, head, less, ap length x.0.0.1, length-append (print_request h) behind)))
body_then n limits bytes h behind others few x (decoded, within is_cut_short, run) = ([], is_broken_off, inr (h, decoded, (behind, x, run)))
body_then n limits bytes h behind others few x (decoded, within is_malformed, run) = ([], is_no_message, inr (h, decoded, (behind, x, run)))
body_then n limits bytes h behind others few x (decoded, is_too_long, run) = ([], has_long_body, (h, decoded, (behind, x, run)))

verdict_then : (n : ℕ) (limits : Limits) (bytes : List ℕ) (v : Verdict) → AllHaveMessages n → length bytes < suc n → Holds bytes v → HasMessages limits bytes
verdict_then n limits bytes (begins h behind) others few x = body_then n limits bytes h behind others few x (body_reads (limits 0 h) (body_start h) behind)
verdict_then n limits bytes is_nothing others few x = ([], is_complete, x)
verdict_then n limits bytes is_cut others few x = ([], is_broken_off, inl x)
verdict_then n limits bytes heads.is_malformed others few x = ([], is_no_message, inl x)
verdict_then n limits bytes is_too_large others few x = ([], has_large_head, x)

messages_within : (n : ℕ) → AllHaveMessages n
messages_within zero limits bytes few = absurd (omega arith)
messages_within (suc n) limits bytes few =
    let (v, x) = has_verdict bytes in
    verdict_then n limits bytes v (messages_within n) few x

pub has_messages : (limits : Limits) (bytes : List ℕ) → HasMessages limits bytes
has_messages limits bytes = messages_within (suc (length bytes)) limits bytes (omega arith)
