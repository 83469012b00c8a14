-- A reader of a body over a stream, from call to call.
use Rattle.std.proofs.Common.{◌≡◌, ℕ, ◌<◌, ◌⊎◌, List, [], take, length, refl, sym, ap, subst, ◌∙◌, arith, inl, inr, Option, Some, None, Ok, Err}
use Rattle.std.specs.Prelude.{⊤}
use Rattle.http_wire.specs.declared.body.BodyState.{BodyState}
use Rattle.http_wire.specs.declared.body.BodyState.TheVariants as states
use Rattle.http_wire.specs.declared.body.Piece.{Piece}
use Rattle.http_wire.specs.declared.body.Piece.TheVariants as pieces
use Rattle.http_wire.specs.declared.stop.Stop.{Stop}
use Rattle.http_wire.specs.declared.stop.Stop.TheVariants as stopped
use Rattle.http_wire.specs.Bodies.{is_cut_short, Goes, Stops, due, less, Skips, stays, skips, Moves, IsCutAt, Runs, stops, Passes}
use Rattle.http_wire.specs.BodyAnswers.{given, count_of, IsStepEnd}
use Rattle.http_wire.specs.InnerPieces.{TakesPiece, IsAfter}
use Rattle.http_wire.specs.InnerReaching.{step_of, IsStopAt, EndsInPiece, GivesData}
use Rattle.http_wire.specs.Flow.{Flow, OnStream, Counts}
use Rattle.http_wire.proofs.BodyLaws.{Advances, advances_over, advances_then, advances_in}
use Rattle.http_wire.proofs.TakingLaws.{less_none, cut_in}
use Rattle.http_wire.proofs.StreamLaws.{on_then, on_same}

-- what was given on the way, and what is made of the rest, is what is made of the whole
pub adds_up : (old new : BodyState) (bytes given rest : List ℕ) → Moves old bytes given new rest → Advances old bytes given new rest
adds_up old new bytes given rest (at, behind, skipped, few, split, is) =
    subst (λ (s : BodyState). Advances old bytes given s rest) (sym is)
    (advances_then old at (less at (length given)) bytes behind rest given (advances_over old bytes at behind skipped)
    (subst (λ (b : List ℕ). Advances at b given (less at (length given)) rest) (sym split) (advances_in at given rest few)))

-- ---- where a reader comes to, whatever the source is

-- the states behind one that are reached without data
abbrev pub Follows : BodyState → BodyState → Type 0
Follows (states.Fixed n) now = (now ≡ states.Fixed n) ⊎ ((n ≡ 0) × (now ≡ states.Done))
Follows (states.Data n) now = (now ≡ states.Data n) ⊎ (n ≡ 0)
Follows (states.Before pieces.Trailer) now = (now ≡ states.Before pieces.Trailer) ⊎ (now ≡ states.Done)
Follows (states.Before piece) now = ⊤
Follows states.Done now = now ≡ states.Done
Follows states.Refused now = now ≡ states.Refused

pub follows_none : (first : BodyState) → Follows first first
follows_none (states.Fixed n) = inl refl
follows_none (states.Data n) = inl refl
follows_none (states.Before pieces.Gap) = tt
follows_none (states.Before pieces.Line) = tt
follows_none (states.Before pieces.Trailer) = inl refl
follows_none states.Done = refl
follows_none states.Refused = refl

pub follows_end : (first now : BodyState) → Follows first now → now ≡ states.Fixed 0 → Follows first states.Done
follows_end (states.Fixed n) now (inl is) at = inr (ap due (sym is ∙ at), refl)
follows_end (states.Fixed n) now (inr (none, is)) at = absurd cc
follows_end (states.Data n) now (inl is) at = absurd cc
follows_end (states.Data n) now (inr none) at = inr none
follows_end (states.Before pieces.Gap) now is at = tt
follows_end (states.Before pieces.Line) now is at = tt
follows_end (states.Before pieces.Trailer) now (inl is) at = absurd cc
follows_end (states.Before pieces.Trailer) now (inr is) at = absurd cc
follows_end states.Done now is at = refl
follows_end states.Refused now is at = absurd cc

pub follows_data : (first now : BodyState) → Follows first now → now ≡ states.Data 0 → Follows first (states.Before pieces.Gap)
follows_data (states.Fixed n) now (inl is) at = absurd cc
follows_data (states.Fixed n) now (inr (none, is)) at = absurd cc
follows_data (states.Data n) now (inl is) at = inr (ap due (sym is ∙ at))
follows_data (states.Data n) now (inr none) at = inr none
follows_data (states.Before pieces.Gap) now is at = tt
follows_data (states.Before pieces.Line) now is at = tt
follows_data (states.Before pieces.Trailer) now (inl is) at = absurd cc
follows_data (states.Before pieces.Trailer) now (inr is) at = absurd cc
follows_data states.Done now is at = absurd cc
follows_data states.Refused now is at = absurd cc

pub follows_piece : (first now : BodyState) (piece : Piece) (next : BodyState) → Follows first now → now ≡ states.Before piece → IsAfter piece next → Follows first next
follows_piece (states.Fixed n) now piece next (inl is) at after = absurd cc
follows_piece (states.Fixed n) now piece next (inr (none, is)) at after = absurd cc
follows_piece (states.Data n) now piece next (inl is) at after = absurd cc
follows_piece (states.Data n) now piece next (inr none) at after = inr none
follows_piece (states.Before pieces.Gap) now piece next is at after = tt
follows_piece (states.Before pieces.Line) now piece next is at after = tt
follows_piece (states.Before pieces.Trailer) now piece next (inl is) at after = let same : piece ≡ pieces.Trailer = cc in inr (subst (λ (p : Piece). IsAfter p next) same after)
follows_piece (states.Before pieces.Trailer) now piece next (inr is) at after = absurd cc
follows_piece states.Done now piece next is at after = absurd cc
follows_piece states.Refused now piece next is at after = absurd cc

-- ---- what a step gives

pub no_count : (stop : Stop) → count_of (step_of stop) ≡ 0
no_count stopped.Ended = refl
no_count stopped.Malformed = refl
no_count stopped.SourceFault = refl
no_count stopped.Long = refl

step_end : (stop : Stop) (state : BodyState) (rest : List ℕ) → IsStopAt stop state rest → IsStepEnd (step_of stop) state rest
step_end stopped.Ended state rest x = x
step_end stopped.Malformed state rest x = x
step_end stopped.SourceFault state rest x = tt
step_end stopped.Long state rest x = tt

-- ---- over the stream

-- the reader skipped from `first` to `now`
abbrev pub Skipped : BodyState → BodyState → List ℕ → List ℕ → Type 0
Skipped first now old new = Skips first old now new

pub skipped_none : (first : BodyState) (a : Option (List ℕ)) → OnStream a a (Skipped first first)
skipped_none first None = tt
skipped_none first (Some bytes) = stays first bytes first bytes refl refl

skip_piece : (first now next : BodyState) (piece : Piece) (x y z : List ℕ) → now ≡ states.Before piece → Skips first x now y → Passes piece y next z → Skips first x next z
skip_piece first now next piece x y z is m t = skips first x next z now y m (subst (λ (s : BodyState). Goes s y next [] z) (sym is) (t, refl))

skip_end : (first now : BodyState) (x y : List ℕ) → now ≡ states.Fixed 0 → Skips first x now y → Skips first x states.Done y
skip_end first now x y is m = skips first x states.Done y now y m (subst (λ (s : BodyState). Goes s y states.Done [] y) (sym is) (omega arith, refl, refl, refl))

skip_data : (first now : BodyState) (x y : List ℕ) → now ≡ states.Data 0 → Skips first x now y → Skips first x (states.Before pieces.Gap) y
skip_data first now x y is m =
    skips first x (states.Before pieces.Gap) y now y m (subst (λ (s : BodyState). Goes s y (states.Before pieces.Gap) [] y) (sym is) (omega arith, refl, refl, refl))

module _ (first now : BodyState) (a b c : Option (List ℕ)) (moved : OnStream a b (Skipped first now)) where
  pub skipped_piece : (piece : Piece) (next : BodyState) → now ≡ states.Before piece → OnStream b c (TakesPiece (Ok next) piece) → OnStream a c (Skipped first next)
  skipped_piece piece next is took = on_then a b c moved took (λ x y z m t. skip_piece first now next piece x y z is m t)

  pub moved_none : (stop : Stop) (buffer room : List ℕ) → OnStream b c (GivesData (Err stop) buffer) → OnStream a c (λ old new. Moves first old (given (step_of stop) room) now new)
  moved_none stop buffer room gave = on_then a b c moved gave (λ x y z m t. subst (λ (k : ℕ). Moves first x (take k room) now z) (sym (no_count stop))
      (now, z, subst (Skips first x now) (sym t.0) m, omega arith, refl, sym (less_none now)))

  pub ended_none : (stop : Stop) (buffer : List ℕ) → 0 < due now → ¬ (stop ≡ stopped.Malformed) → OnStream b c (GivesData (Err stop) buffer) → OnStream a c (λ old new. IsStepEnd (step_of stop) now new)
  ended_none stop buffer some sound gave = on_then a b c moved gave (λ x y z m t. step_end stop now z (at stop sound y z t))
    where
      at : (stop : Stop) → ¬ (stop ≡ stopped.Malformed) → (y z : List ℕ) → GivesData (Err stop) buffer y z → IsStopAt stop now z
      at stopped.Ended sound y z t = cut_in now z some (t.0 ∙ t.1 refl)
      at stopped.Malformed sound y z t = absurd (sound refl)
      at stopped.SourceFault sound y z t = tt
      at stopped.Long sound y z t = tt

module _ (first now : BodyState) (a b : Option (List ℕ)) (moved : OnStream a b (Skipped first now)) where
  pub skipped_end : now ≡ states.Fixed 0 → OnStream a b (Skipped first states.Done)
  skipped_end is = on_same a b moved (λ x y m. skip_end first now x y is m)

  pub skipped_data : now ≡ states.Data 0 → OnStream a b (Skipped first (states.Before pieces.Gap))
  skipped_data is = on_same a b moved (λ x y m. skip_data first now x y is m)

-- ---- over what waits

-- the source is as it was, and the reader skipped over what waited; or that ends before a piece
abbrev pub AtHand : {S : Type 0} → S → S → BodyState → List ℕ → BodyState → List ℕ → Type 0
AtHand old new first bytes now rest = ((new ≡ old) × Skips first bytes now rest) ⊎ EndsInPiece first bytes

module _ {S : Type 0} (old mid new : S) (first now : BodyState) (x y : List ℕ) (waits : AtHand old mid first x now y) where
  pub hand_end : now ≡ states.Fixed 0 → AtHand old mid first x states.Done y
  hand_end is = elim waits [ inl w ↦ inl (w.0, skip_end first now x y is w.1) | inr w ↦ inr w ]

  pub hand_data : now ≡ states.Data 0 → AtHand old mid first x (states.Before pieces.Gap) y
  hand_data is = elim waits [ inl w ↦ inl (w.0, skip_data first now x y is w.1) | inr w ↦ inr w ]

  pub hand_piece : (piece : Piece) (next : BodyState) (z : List ℕ) → now ≡ states.Before piece → ((new ≡ mid) × TakesPiece (Ok next) piece y z) ⊎ IsCutAt piece y → AtHand old new first x next z
  hand_piece piece next z is took = elim waits [
    | inl w ↦ elim took [
      | inl t ↦ inl (t.0 ∙ w.0, skip_piece first now next piece x y z is w.1 t.1)
      | inr cut ↦ inr (piece, y, subst (λ (s : BodyState). Skips first x s y) is w.1, cut)
    ]
    | inr w ↦ inr w
  ]

-- a body of which no data wait
runs_over : (first : BodyState) (bytes : List ℕ) (now : BodyState) (rest : List ℕ) → Skips first bytes now rest → Stops now rest [] is_cut_short → Runs first bytes [] is_cut_short
runs_over first bytes now rest skip stop = advances_over first bytes now rest skip [] is_cut_short (stops now rest [] is_cut_short stop)

pub ends_in_piece : (first : BodyState) (bytes : List ℕ) → EndsInPiece first bytes → Runs first bytes [] is_cut_short
ends_in_piece first bytes (piece, behind, skip, cut) = runs_over first bytes (states.Before piece) behind skip (refl, inr (cut, refl))

pub hand_read : {S : Type 0} (old mid : S) (first now : BodyState) (x y : List ℕ) → AtHand old mid first x now y → ¬ (Runs first x [] is_cut_short) → mid ≡ old
hand_read old mid first now x y waits decided = elim waits [ inl w ↦ w.0 | inr w ↦ absurd (decided (ends_in_piece first x w)) ]

pub hand_given : {S : Type 0} (old mid new : S) (first now : BodyState) (x y : List ℕ) → 0 < due now → AtHand old mid first x now y → (new ≡ mid) ⊎ (y ≡ [])
    → ¬ (Runs first x [] is_cut_short) → new ≡ old
hand_given old mid new first now x y some waits gave decided = elim waits [
  | inl w ↦ elim gave [ inl same ↦ same ∙ w.0 | inr none ↦ absurd (decided (runs_over first x now y w.1 (cut_in now y some none))) ]
  | inr w ↦ absurd (decided (ends_in_piece first x w))
]

-- counts over two calls
pub Counts-trans : (a : Flow) (i : ℕ) (b : Flow) (j : ℕ) (c : Flow) (k : ℕ) → Counts a i b j → Counts b j c k → Counts a i c k
Counts-trans a i b j c k x y = record {
  as_given = λ few.
      let second = y.as_given few in
      let less = y.grows few in
      let first = x.as_given (omega arith) in
      omega arith;
  grows = λ few.
      let less = y.grows few in
      let before = x.grows (omega arith) in
      omega arith;
}
