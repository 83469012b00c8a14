-- From what waits in a feed to the pieces of a body on the stream.
use Rattle.std.proofs.Common.{◌≡◌, ℕ, ◌+◌, ◌-◌, ◌<◌, ◌≤◌, min, List, [], ◌++◌, length, take, drop, slice_range, refl, sym, ap, subst, ◌∙◌, arith, append_assoc, length-append, Option, Some, None, Result, Ok, Err}
use Rattle.std.proofs.Math.Nat.{sub-zero}
use Rattle.std.specs.Io.KnownBytes.{prepend_known, Keeps}
use Rattle.http_wire.specs.declared.body.BodyState.{BodyState}
use Rattle.http_wire.specs.declared.body.BodyState.TheVariants as states
use Rattle.http_wire.specs.declared.body.Piece.{Piece}
use Rattle.http_wire.specs.declared.body.Piece.TheVariants as pieces
use Rattle.http_wire.specs.declared.stop.Stop.{Stop}
use Rattle.http_wire.specs.Bodies.{Passes, IsCutAt, is_cut_short, Stops, due, less}
use Rattle.http_wire.specs.InnerPieces.{limit_of, JudgesPiece, JudgesFront, FitsFront, TakesPiece}
use Rattle.http_wire.specs.Flow.{OnStream}
use Rattle.http_wire.proofs.BodyLaws.{Passes-append}
use Rattle.http_wire.proofs.StreamLaws.{slice_split, length_slice, drop_front}

cut_is_short : (piece : Piece) (bytes : List ℕ) → IsCutAt piece bytes → length bytes < limit_of piece
cut_is_short pieces.Gap bytes cut = cut.0
cut_is_short pieces.Line bytes cut = cut.0
cut_is_short pieces.Trailer bytes cut = cut.0

pub limit_is_small : (piece : Piece) → limit_of piece ≤ 16384
limit_is_small pieces.Gap = omega arith
limit_is_small pieces.Line = omega arith
limit_is_small pieces.Trailer = omega arith

-- the front of what waits, as much as the piece may have
pub front_judged : (answer : Result (Option (BodyState × ℕ)) Stop) (piece : Piece) (b p : List ℕ) (start end middle : ℕ) → start ≤ end → end ≤ length b → middle ≡ min end (start + limit_of piece)
    → slice_range b start end ≡ p → JudgesPiece answer piece (slice_range b start middle) → JudgesFront answer piece p
front_judged answer piece b p start end middle ordered within is_middle is x =
    (slice_range b start middle, slice_range b middle end, sym is ∙ slice_split b start middle end (omega arith) (omega arith), x, λ is_open. nothing_behind (subst (λ (a : Result (Option (BodyState × ℕ)) Stop). JudgesPiece a piece (slice_range b start middle)) is_open x))
  where
    nothing_behind : IsCutAt piece (slice_range b start middle) → slice_range b middle end ≡ []
    nothing_behind cut =
        let short = cut_is_short piece _ cut in
        let long = length_slice b start middle (omega arith) (omega arith) in
        let e : end - middle ≡ 0 = omega arith in
        ap (λ (k : ℕ). take k (drop middle b)) e

pub front_fits : (answer : Result (Option (BodyState × ℕ)) Stop) (piece : Piece) (p : List ℕ) → JudgesFront answer piece p → FitsFront answer p
front_fits (Ok (Some (next, count))) piece p (begin, behind, split, (passes, some, fits), rest) = (some, omega (arith, ap length split, length-append begin behind))
front_fits (Err stop) piece p x = tt
front_fits (Ok None) piece p (begin, behind, split, cut, nothing) =
    omega (arith, ap length split, length-append begin behind, ap length (nothing refl), cut_is_short piece begin cut, limit_is_small piece)

-- ---- of all that waits

-- ---- on the stream

pub piece_found : (old left : Option (List ℕ)) (p : List ℕ) (piece : Piece) (next : BodyState) (count : ℕ) → Keeps old (prepend_known p left)
    → JudgesFront (Ok (Some (next, count))) piece p → OnStream old (prepend_known (drop count p) left) (TakesPiece (Ok next) piece)
piece_found None left p piece next count kept x = tt
piece_found (Some a) None p piece next count kept x = kept
piece_found (Some a) (Some q) p piece next count kept (begin, behind, split, (passes, some, fits), nothing) =
    let whole = Passes-append piece begin next (drop count begin) (behind ++ q) passes in
    let before : begin ++ (behind ++ q) ≡ a = sym (append_assoc begin behind q) ∙ ap (λ (b : List ℕ). b ++ q) (sym split) ∙ kept in
    let after : drop count begin ++ (behind ++ q) ≡ drop count p ++ q =
    sym (append_assoc (drop count begin) behind q) ∙ ap (λ (b : List ℕ). b ++ q) (sym (drop_front count begin behind fits) ∙ ap (drop count) (sym split)) in
    subst (λ (b : List ℕ). Passes piece b next (drop count p ++ q)) before (subst (λ (r : List ℕ). Passes piece (begin ++ (behind ++ q)) next r) after whole)

-- ---- steps through data

pub less_none : (state : BodyState) → less state 0 ≡ state
less_none (states.Fixed n) = ap states.Fixed (sub-zero n)
less_none (states.Data n) = ap states.Data (sub-zero n)
less_none (states.Before piece) = refl
less_none states.Done = refl
less_none states.Refused = refl

-- an input that ends inside the data
pub cut_in : (state : BodyState) (bytes : List ℕ) → 0 < due state → bytes ≡ [] → Stops state bytes [] is_cut_short
cut_in (states.Fixed n) bytes some none = (omega (arith, some, ap length none), sym none, refl)
cut_in (states.Data n) bytes some none = (omega (arith, some, ap length none), sym none, refl)
cut_in (states.Before piece) bytes some none = absurd (omega (arith, some))
cut_in states.Done bytes some none = absurd (omega (arith, some))
cut_in states.Refused bytes some none = absurd (omega (arith, some))
