-- The proof's own: no public clause cites what stands here.
-- The pieces of a chunked body, as they are judged, and taken off a stream.
use Rattle.std.specs.Prelude.{◌≡◌, ℕ, ◌≤◌, ◌<◌, List, [], ◌++◌, drop, length, Option, Some, None, Result, Ok, Err, ⊤}
use Rattle.http_wire.specs.Limits.{head_limit, size_line_limit, trailer_limit}
use Rattle.http_wire.specs.declared.body.BodyState.{BodyState}
use Rattle.http_wire.specs.declared.body.BodyState.TheVariants as states
use Rattle.http_wire.specs.declared.body.Piece.{Piece}
use Rattle.http_wire.specs.declared.body.Piece.TheVariants as pieces
use Rattle.http_wire.specs.declared.stop.Stop.{Stop}
use Rattle.http_wire.specs.declared.stop.Stop.TheVariants as stopped
use Rattle.http_wire.specs.Bodies.{after_size, Passes, IsBadAt, IsCutAt}

-- what the bytes that have come are known to be, as if they were all: the piece, a cut one, or a bad one
abbrev pub JudgesPiece : Result (Option (BodyState × ℕ)) Stop → Piece → List ℕ → Type 0
JudgesPiece (Ok (Some (next, count))) piece bytes =
    Passes piece bytes next (drop count bytes) × (0 < count) × (count ≤ length bytes)
JudgesPiece (Ok None) piece bytes = IsCutAt piece bytes
JudgesPiece (Err stop) piece bytes = (stop ≡ stopped.Malformed) × IsBadAt piece bytes

-- the same of a front of the bytes, which is all of them where it is cut
abbrev pub JudgesFront : Result (Option (BodyState × ℕ)) Stop → Piece → List ℕ → Type 0
JudgesFront answer piece bytes =
    (begin : List ℕ) × (behind : List ℕ) × (bytes ≡ begin ++ behind) × JudgesPiece answer piece begin
    × (answer ≡ Ok None → behind ≡ [])

-- the most bytes of a piece
abbrev pub limit_of : Piece → ℕ
limit_of pieces.Gap = 2
limit_of pieces.Line = size_line_limit
limit_of pieces.Trailer = trailer_limit

-- what a caller needs of the counts: bytes to take off the front, or room for more
abbrev pub FitsFront : Result (Option (BodyState × ℕ)) Stop → List ℕ → Type 0
FitsFront (Ok (Some (next, count))) bytes = (0 < count) × (count ≤ length bytes)
FitsFront (Ok None) bytes = length bytes < head_limit
FitsFront (Err stop) bytes = ⊤

-- the piece was taken off the bytes, or they are as they were
abbrev pub TakesPiece : Result BodyState Stop → Piece → List ℕ → List ℕ → Type 0
TakesPiece (Ok next) piece old new = Passes piece old next new
TakesPiece (Err stopped.Ended) piece old new = IsCutAt piece old × (new ≡ old)
TakesPiece (Err stopped.Malformed) piece old new = IsBadAt piece old × (new ≡ old)
TakesPiece (Err stop) piece old new = new ≡ old

-- a reader is in one of these states behind a piece
abbrev pub IsAfter : Piece → BodyState → Type 0
IsAfter pieces.Gap next = next ≡ states.Before pieces.Line
IsAfter pieces.Line next = (size : ℕ) × (next ≡ after_size size)
IsAfter pieces.Trailer next = next ≡ states.Done
