-- Laws of bodies: a reader makes one thing of the bytes to come, and what it made of the rest it made of the whole.
use Rattle.std.proofs.Common.{◌≡◌, ℕ, ◌+◌, ◌-◌, ◌≤◌, List, [], ◌∷◌, ◌++◌, length, take, drop, refl, sym, ap, subst, ◌∙◌, arith, append_assoc, length-append, inl, inr}
use Rattle.std.specs.Prelude.{if◌then◌else◌, ◌==◌}
use lib.Seq.{take-append-add, drop-append-add}
use Rattle.httparse.specs.Grammar.{ChunkLine, IsChunkLine, print_chunk_line, chunk_size}
use Rattle.httparse.proofs.ChunkLemmas.{chunk_line_unique}
use Rattle.httparse.proofs.GrammarLemmas.{section_unique}
use Rattle.http_wire.specs.declared.body.BodyState.{BodyState}
use Rattle.http_wire.specs.declared.body.BodyState.TheVariants as states
use Rattle.http_wire.specs.declared.body.Piece.{Piece}
use Rattle.http_wire.specs.declared.body.Piece.TheVariants as pieces
use Rattle.http_wire.specs.Bodies.{IsGap, print_gap, IsSection, print_trailer, after_size, Passes, IsBadAt, IsCutAt, Outcome, ends_before, is_cut_short, is_malformed, Goes, Stops, Runs, stops, goes, due, less, Skips, stays, skips}
use Rattle.http_wire.proofs.PieceLaws.{HasPiece-append, IsBadPiece-append, piece_not_bad, piece_not_cut, bad_not_cut}

-- ---- what follows does not change a piece

pub Passes-append : (piece : Piece) (bytes : List ℕ) (next : BodyState) (rest more : List ℕ) → Passes piece bytes next rest → Passes piece (bytes ++ more) next (rest ++ more)
Passes-append pieces.Gap bytes next rest more (has, is) = (HasPiece-append IsGap print_gap 2 bytes tt rest more has, is)
Passes-append pieces.Line bytes next rest more (line, has, is) = (line, HasPiece-append IsChunkLine print_chunk_line 1024 bytes line rest more has, is)
Passes-append pieces.Trailer bytes next rest more (section, has, is) = (section, HasPiece-append IsSection print_trailer 16384 bytes section rest more has, is)

pub IsBadAt-append : (piece : Piece) (bytes more : List ℕ) → IsBadAt piece bytes → IsBadAt piece (bytes ++ more)
IsBadAt-append pieces.Gap bytes more x = IsBadPiece-append IsGap print_gap 2 bytes more x
IsBadAt-append pieces.Line bytes more x = IsBadPiece-append IsChunkLine print_chunk_line 1024 bytes more x
IsBadAt-append pieces.Trailer bytes more x = IsBadPiece-append IsSection print_trailer 16384 bytes more x

-- ---- one thing at most holds of a piece

passes_not_bad : (piece : Piece) (bytes : List ℕ) (next : BodyState) (rest : List ℕ) → Passes piece bytes next rest → IsBadAt piece bytes → ⊥
passes_not_bad pieces.Gap bytes next rest (has, is) bad = piece_not_bad IsGap print_gap 2 bytes tt rest has bad
passes_not_bad pieces.Line bytes next rest (line, has, is) bad = piece_not_bad IsChunkLine print_chunk_line 1024 bytes line rest has bad
passes_not_bad pieces.Trailer bytes next rest (section, has, is) bad = piece_not_bad IsSection print_trailer 16384 bytes section rest has bad

passes_not_cut : (piece : Piece) (bytes : List ℕ) (next : BodyState) (rest : List ℕ) → Passes piece bytes next rest → IsCutAt piece bytes → ⊥
passes_not_cut pieces.Gap bytes next rest (has, is) cut = piece_not_cut IsGap print_gap 2 bytes tt rest has cut
passes_not_cut pieces.Line bytes next rest (line, has, is) cut = piece_not_cut IsChunkLine print_chunk_line 1024 bytes line rest has cut
passes_not_cut pieces.Trailer bytes next rest (section, has, is) cut = piece_not_cut IsSection print_trailer 16384 bytes section rest has cut

one_not_cut : (piece : Piece) (bytes : List ℕ) → IsBadAt piece bytes → IsCutAt piece bytes → ⊥
one_not_cut pieces.Gap bytes bad cut = bad_not_cut IsGap print_gap 2 bytes bad cut
one_not_cut pieces.Line bytes bad cut = bad_not_cut IsChunkLine print_chunk_line 1024 bytes bad cut
one_not_cut pieces.Trailer bytes bad cut = bad_not_cut IsSection print_trailer 16384 bytes bad cut

Passes_unique : (piece : Piece) (bytes : List ℕ) (m n : BodyState) (r q : List ℕ) → Passes piece bytes m r → Passes piece bytes n q → (m ≡ n) × (r ≡ q)
Passes_unique pieces.Gap bytes m n r q (((_, x), _), is) (((_, y), _), also) =
    let same : 13 ∷ 10 ∷ r ≡ 13 ∷ 10 ∷ q = sym x ∙ y in
    (is ∙ sym also, ap (drop 2) same)
Passes_unique pieces.Line bytes m n r q (l, (x, _), is) (k, (y, _), also) =
    let same = chunk_line_unique bytes l k r q x y in
    (is ∙ ap (λ (line : ChunkLine). after_size (chunk_size line)) same.0 ∙ sym also, same.1)
Passes_unique pieces.Trailer bytes m n r q (s, (x, _), is) (t, (y, _), also) =
    (is ∙ sym also, (section_unique bytes s.0 t.0 s.1 t.1 r q x y).2)

-- ---- one run

pub Goes_unique : (state : BodyState) (bytes : List ℕ) (m n : BodyState) (d e r q : List ℕ) → Goes state bytes m d r → Goes state bytes n e q → (m ≡ n) × (d ≡ e) × (r ≡ q)
Goes_unique (states.Fixed k) bytes m n d e r q x y = (x.1 ∙ sym y.1, x.2 ∙ sym y.2, x.3 ∙ sym y.3)
Goes_unique (states.Data k) bytes m n d e r q x y = (x.1 ∙ sym y.1, x.2 ∙ sym y.2, x.3 ∙ sym y.3)
Goes_unique (states.Before piece) bytes m n d e r q x y =
    let same = Passes_unique piece bytes m n r q x.0 y.0 in
    (same.0, x.1 ∙ sym y.1, same.1)
Goes_unique states.Done bytes m n d e r q x y = absurd x
Goes_unique states.Refused bytes m n d e r q x y = absurd x

pub goes_not_stops : (state : BodyState) (bytes : List ℕ) (next : BodyState) (d r e : List ℕ) (o : Outcome) → Goes state bytes next d r → Stops state bytes e o → ⊥
goes_not_stops (states.Fixed k) bytes next d r e o x y = omega (arith, x.0, y.0)
goes_not_stops (states.Data k) bytes next d r e o x y = omega (arith, x.0, y.0)
goes_not_stops (states.Before piece) bytes next d r e o x (none, inl bad) = passes_not_bad piece bytes next r x.0 bad.0
goes_not_stops (states.Before piece) bytes next d r e o x (none, inr cut) = passes_not_cut piece bytes next r x.0 cut.0
goes_not_stops states.Done bytes next d r e o x y = x
goes_not_stops states.Refused bytes next d r e o x y = x

pub Stops_unique : (state : BodyState) (bytes d e : List ℕ) (o p : Outcome) → Stops state bytes d o → Stops state bytes e p → (d ≡ e) × (o ≡ p)
Stops_unique (states.Fixed k) bytes d e o p x y = (x.1 ∙ sym y.1, x.2 ∙ sym y.2)
Stops_unique (states.Data k) bytes d e o p x y = (x.1 ∙ sym y.1, x.2 ∙ sym y.2)
Stops_unique (states.Before piece) bytes d e o p (x, inl bad) (y, inl also) = (x ∙ sym y, bad.1 ∙ sym also.1)
Stops_unique (states.Before piece) bytes d e o p (x, inl bad) (y, inr cut) = absurd (one_not_cut piece bytes bad.0 cut.0)
Stops_unique (states.Before piece) bytes d e o p (x, inr cut) (y, inl bad) = absurd (one_not_cut piece bytes bad.0 cut.0)
Stops_unique (states.Before piece) bytes d e o p (x, inr cut) (y, inr also) = (x ∙ sym y, cut.1 ∙ sym also.1)
Stops_unique states.Done bytes d e o p x y = (x.0 ∙ sym y.0, x.1 ∙ sym y.1)
Stops_unique states.Refused bytes d e o p x y = (x.0 ∙ sym y.0, x.1 ∙ sym y.1)

pub one_run : (state : BodyState) (bytes d e : List ℕ) (o p : Outcome) → Runs state bytes d o → Runs state bytes e p → (d ≡ e) × (o ≡ p)
one_run state bytes d e o p (stops _ _ _ _ x) (stops _ _ _ _ y) = Stops_unique state bytes d e o p x y
one_run state bytes d e o p (stops _ _ _ _ x) (goes _ _ _ _ n f r m y _ _) = absurd (goes_not_stops state bytes n f r d o y x)
one_run state bytes d e o p (goes _ _ _ _ n f r m x _ _) (stops _ _ _ _ y) = absurd (goes_not_stops state bytes n f r e p x y)
one_run state bytes d e o p (goes _ _ _ _ n f r m x is run) (goes _ _ _ _ k g q l y also other) =
    let same = Goes_unique state bytes n k f g r q x y in
    let moved : Runs n r l p = subst (λ (s : BodyState). Runs s r l p) (sym same.0) (subst (λ (b : List ℕ). Runs k b l p) (sym same.2) other) in
    let rest = one_run n r m l o p run moved in
    (is ∙ (λ i. same.1 i ++ rest.0 i) ∙ sym also, rest.1)

-- ---- moving on

-- whatever a reader makes of the rest, it made that of the whole, behind what it gave
abbrev pub Advances : BodyState → List ℕ → List ℕ → BodyState → List ℕ → Type 0
Advances old bytes given new rest = (decoded : List ℕ) (outcome : Outcome) → Runs new rest decoded outcome → Runs old bytes (given ++ decoded) outcome

pub advances_by : (state : BodyState) (bytes : List ℕ) (next : BodyState) (rest : List ℕ) → Goes state bytes next [] rest → Advances state bytes [] next rest
advances_by state bytes next rest x decoded outcome run = goes state bytes decoded outcome next [] rest decoded x refl run

pub advances_then : (a b c : BodyState) (s t u given : List ℕ) → Advances a s [] b t → Advances b t given c u → Advances a s given c u
advances_then a b c s t u given x y decoded outcome run = x (given ++ decoded) outcome (y decoded outcome run)

-- ---- data that comes in parts

pub no_bytes : (bytes : List ℕ) → length bytes ≤ 0 → bytes ≡ []
no_bytes [] few = refl
no_bytes (b ∷ bytes) few = absurd (omega arith)

-- so many bytes, of which the first ones came before
abbrev Splits : ℕ → List ℕ → List ℕ → List ℕ → Type 0
Splits n bytes first behind = (n ≤ length bytes) × (first ≡ take n bytes) × (behind ≡ drop n bytes)

splits_in : (n : ℕ) (bytes rest first behind : List ℕ) → length bytes ≤ n → Splits (n - length bytes) rest first behind → Splits n (bytes ++ rest) (bytes ++ first) behind
splits_in n bytes rest first behind few (fits, is_first, is_behind) =
    let k = n - length bytes in
    let whole : length bytes + k ≡ n = omega arith in (
      omega (arith, fits, length-append bytes rest),
      ap (λ (b : List ℕ). bytes ++ b) is_first ∙ sym (take-append-add bytes rest k) ∙ ap (λ (m : ℕ). take m (bytes ++ rest)) whole,
      is_behind ∙ sym (drop-append-add bytes rest k) ∙ ap (λ (m : ℕ). drop m (bytes ++ rest)) whole,
    )

-- the last part of the data that a reader stands in, and all of it
pub goes_in : (state : BodyState) (bytes rest : List ℕ) (next : BodyState) (first behind : List ℕ) → length bytes ≤ due state → Goes (less state (length bytes)) rest next first behind
    → Goes state (bytes ++ rest) next (bytes ++ first) behind
goes_in (states.Fixed n) bytes rest next first behind few (fits, is, is_first, is_behind) =
    let all = splits_in n bytes rest first behind few (fits, is_first, is_behind) in
    (all.0, is, all.1, all.2)
goes_in (states.Data n) bytes rest next first behind few (fits, is, is_first, is_behind) =
    let all = splits_in n bytes rest first behind few (fits, is_first, is_behind) in
    (all.0, is, all.1, all.2)
goes_in (states.Before piece) bytes rest next first behind few x =
    subst (λ (b : List ℕ). Goes (states.Before piece) (b ++ rest) next (b ++ first) behind) (sym (no_bytes bytes few)) x
goes_in states.Done bytes rest next first behind few x = absurd x
goes_in states.Refused bytes rest next first behind few x = absurd x

pub stops_in : (state : BodyState) (bytes rest decoded : List ℕ) (outcome : Outcome) → length bytes ≤ due state → Stops (less state (length bytes)) rest decoded outcome
    → Stops state (bytes ++ rest) (bytes ++ decoded) outcome
stops_in (states.Fixed n) bytes rest decoded outcome few (short, is, cut) = (omega (arith, short, length-append bytes rest), ap (λ (b : List ℕ). bytes ++ b) is, cut)
stops_in (states.Data n) bytes rest decoded outcome few (short, is, cut) = (omega (arith, short, length-append bytes rest), ap (λ (b : List ℕ). bytes ++ b) is, cut)
stops_in (states.Before piece) bytes rest decoded outcome few x =
    subst (λ (b : List ℕ). Stops (states.Before piece) (b ++ rest) (b ++ decoded) outcome) (sym (no_bytes bytes few)) x
stops_in states.Done bytes rest decoded outcome few x = subst (λ (b : List ℕ). Stops states.Done (b ++ rest) (b ++ decoded) outcome) (sym (no_bytes bytes few)) x
stops_in states.Refused bytes rest decoded outcome few x = subst (λ (b : List ℕ). Stops states.Refused (b ++ rest) (b ++ decoded) outcome) (sym (no_bytes bytes few)) x

-- bytes of the data that a reader stands in
pub advances_in : (state : BodyState) (bytes rest : List ℕ) → length bytes ≤ due state → Advances state (bytes ++ rest) bytes (less state (length bytes)) rest
advances_in state bytes rest few decoded outcome (stops _ _ _ _ x) =
    stops state (bytes ++ rest) (bytes ++ decoded) outcome (stops_in state bytes rest decoded outcome few x)
advances_in state bytes rest few decoded outcome (goes _ _ _ _ next first behind more x is run) =
    goes state (bytes ++ rest) (bytes ++ decoded) outcome next (bytes ++ first) behind more (goes_in state bytes rest next first behind few x)
    (ap (λ (b : List ℕ). bytes ++ b) is ∙ sym (append_assoc bytes first more)) run

-- ---- a whole body

abbrev pub outcome_kind : Outcome → ℕ
outcome_kind (ends_before rest) = 0
outcome_kind is_cut_short = 1
outcome_kind is_malformed = 2

abbrev pub behind_in : Outcome → List ℕ
behind_in (ends_before rest) = rest
behind_in is_cut_short = []
behind_in is_malformed = []

-- no step more is whole only at the end
pub whole_is_done : (state : BodyState) (bytes decoded rest : List ℕ) → Stops state bytes decoded (ends_before rest) → (state ≡ states.Done) × (decoded ≡ []) × (rest ≡ bytes)
whole_is_done (states.Fixed n) bytes decoded rest (few, is, outcome) = absurd (omega (arith, ap outcome_kind outcome))
whole_is_done (states.Data n) bytes decoded rest (few, is, outcome) = absurd (omega (arith, ap outcome_kind outcome))
whole_is_done (states.Before piece) bytes decoded rest (none, inl (bad, outcome)) = absurd (omega (arith, ap outcome_kind outcome))
whole_is_done (states.Before piece) bytes decoded rest (none, inr (cut, outcome)) = absurd (omega (arith, ap outcome_kind outcome))
whole_is_done states.Done bytes decoded rest (none, outcome) = (refl, none, ap behind_in outcome)
whole_is_done states.Refused bytes decoded rest (none, outcome) = absurd (omega (arith, ap outcome_kind outcome))

pub advances_over : (old : BodyState) (bytes : List ℕ) (new : BodyState) (rest : List ℕ) → Skips old bytes new rest → Advances old bytes [] new rest
advances_over old bytes new rest (stays _ _ _ _ same is) = λ decoded outcome run.
    subst (λ (s : BodyState). Runs s bytes decoded outcome) (sym same) (subst (λ (r : List ℕ). Runs new r decoded outcome) (sym is) run)
advances_over old bytes new rest (skips _ _ _ _ last behind before step) =
    advances_then old last new bytes behind rest [] (advances_over old bytes last behind before) (advances_by last behind new rest step)

-- how many pieces can come before data, or the end
abbrev pub rank : BodyState → ℕ
rank (states.Fixed n) = if n == 0 then 1 else 0
rank (states.Data n) = if n == 0 then 4 else 0
rank (states.Before pieces.Gap) = 3
rank (states.Before pieces.Line) = 2
rank (states.Before pieces.Trailer) = 1
rank states.Done = 0
rank states.Refused = 0
