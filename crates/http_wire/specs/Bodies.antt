-- Bodies (RFC 9112, sections 6 and 7): what a reader that stands somewhere in a body reads of the bytes to come.
use Rattle.std.specs.Prelude.{◌≡◌, ℕ, ◌-◌, ◌<◌, ◌≤◌, ◌⊎◌, ◌==◌, if◌then◌else◌, List, [], ◌∷◌, ◌++◌, length, take, drop, All, Option, Some, None, ⊤}
use Rattle.http_wire.specs.Limits.{size_line_limit, trailer_limit}
use Rattle.httparse.specs.Grammar.{LineEnd, Field, IsField, print_section, ChunkLine, IsChunkLine, print_chunk_line, chunk_size}
use Rattle.http_wire.specs.declared.body.BodyState.{BodyState}
use Rattle.http_wire.specs.declared.body.BodyState.TheVariants as states
use Rattle.http_wire.specs.declared.body.Piece.{Piece}
use Rattle.http_wire.specs.declared.body.Piece.TheVariants as pieces

-- ---- a piece of the grammar of at most so many bytes: its trees, and their bytes

module _ {A : Type 0} (Ok : A → Type 0) (print : A → List ℕ) where
  abbrev pub Reads : List ℕ → A → List ℕ → Type 0
  Reads bytes tree rest = Ok tree × (bytes ≡ print tree ++ rest)

  -- the bytes begin with the piece
  abbrev pub HasPiece : ℕ → List ℕ → A → List ℕ → Type 0
  HasPiece limit bytes tree rest = Reads bytes tree rest × (length (print tree) ≤ limit)

  -- they do not
  abbrev pub HasNone : List ℕ → Type 0
  HasNone bytes = (tree : A) (rest : List ℕ) → ¬ (Reads bytes tree rest)

  -- and will not, whatever follows
  abbrev pub NeverHas : List ℕ → Type 0
  NeverHas bytes = (more : List ℕ) → HasNone (bytes ++ more)

  -- some bytes can follow after which they do
  abbrev pub MayHave : List ℕ → Type 0
  MayHave bytes = (more : List ℕ) × (tree : A) × (rest : List ℕ) × Reads (bytes ++ more) tree rest

  -- after some front nothing can complete the piece, or `limit` bytes hold no whole one
  abbrev pub IsBadPiece : ℕ → List ℕ → Type 0
  IsBadPiece limit bytes = (begin : List ℕ) × (rest : List ℕ) × (bytes ≡ begin ++ rest) × (length begin ≤ limit)
      × (NeverHas begin ⊎ ((length begin ≡ limit) × HasNone begin))

  -- fewer bytes, which begin the piece
  abbrev pub IsCutPiece : ℕ → List ℕ → Type 0
  IsCutPiece limit bytes = (length bytes < limit) × HasNone bytes × MayHave bytes

-- ---- the three pieces of a chunked body

-- CR LF after the data of a chunk
abbrev pub IsGap : ⊤ → Type 0
IsGap _ = ⊤

abbrev pub print_gap : ⊤ → List ℕ
print_gap _ = 13 ∷ 10 ∷ []

-- trailer fields, and the empty line behind them
abbrev pub Section : Type 0
Section = List Field × LineEnd

abbrev pub IsSection : Section → Type 0
IsSection section = All IsField section.0

abbrev pub print_trailer : Section → List ℕ
print_trailer section = print_section section.0 section.1

-- after a size line: so much data, or the trailer
abbrev pub after_size : ℕ → BodyState
after_size size = if size == 0 then states.Before pieces.Trailer else states.Data size

-- the bytes begin with the piece, and behind it the reader stands there
abbrev pub Passes : Piece → List ℕ → BodyState → List ℕ → Type 0
Passes pieces.Gap bytes next rest = HasPiece IsGap print_gap 2 bytes tt rest × (next ≡ states.Before pieces.Line)
Passes pieces.Line bytes next rest =
    (line : ChunkLine) × HasPiece IsChunkLine print_chunk_line size_line_limit bytes line rest
    × (next ≡ after_size (chunk_size line))
Passes pieces.Trailer bytes next rest =
    (section : Section) × HasPiece IsSection print_trailer trailer_limit bytes section rest × (next ≡ states.Done)

-- the bytes do not
abbrev pub IsBadAt : Piece → List ℕ → Type 0
IsBadAt pieces.Gap bytes = IsBadPiece IsGap print_gap 2 bytes
IsBadAt pieces.Line bytes = IsBadPiece IsChunkLine print_chunk_line size_line_limit bytes
IsBadAt pieces.Trailer bytes = IsBadPiece IsSection print_trailer trailer_limit bytes

-- the input ends inside the piece
abbrev pub IsCutAt : Piece → List ℕ → Type 0
IsCutAt pieces.Gap bytes = IsCutPiece IsGap print_gap 2 bytes
IsCutAt pieces.Line bytes = IsCutPiece IsChunkLine print_chunk_line size_line_limit bytes
IsCutAt pieces.Trailer bytes = IsCutPiece IsSection print_trailer trailer_limit bytes

-- ---- whole bodies

-- how a body ends: whole, with the bytes behind it; cut by the end of the input; or malformed
pub data Outcome : Type 0 where
  ends_before : List ℕ → Outcome
  is_cut_short is_malformed : Outcome

-- one step on, with the decoded bytes that it gives
abbrev pub Goes : BodyState → List ℕ → BodyState → List ℕ → List ℕ → Type 0
Goes (states.Fixed n) bytes next decoded rest =
    (n ≤ length bytes) × (next ≡ states.Done) × (decoded ≡ take n bytes) × (rest ≡ drop n bytes)
Goes (states.Data n) bytes next decoded rest =
    (n ≤ length bytes) × (next ≡ states.Before pieces.Gap) × (decoded ≡ take n bytes) × (rest ≡ drop n bytes)
Goes (states.Before piece) bytes next decoded rest = Passes piece bytes next rest × (decoded ≡ [])
Goes state bytes next decoded rest = ⊥

-- no step more
abbrev pub Stops : BodyState → List ℕ → List ℕ → Outcome → Type 0
Stops (states.Fixed n) bytes decoded outcome = (length bytes < n) × (decoded ≡ bytes) × (outcome ≡ is_cut_short)
Stops (states.Data n) bytes decoded outcome = (length bytes < n) × (decoded ≡ bytes) × (outcome ≡ is_cut_short)
Stops (states.Before piece) bytes decoded outcome =
    (decoded ≡ []) × ((IsBadAt piece bytes × (outcome ≡ is_malformed))
    ⊎ (IsCutAt piece bytes × (outcome ≡ is_cut_short)))
Stops states.Done bytes decoded outcome = (decoded ≡ []) × (outcome ≡ ends_before bytes)
Stops states.Refused bytes decoded outcome = (decoded ≡ []) × (outcome ≡ is_malformed)

-- the same, and nothing is to come, where it is told how the body ends
abbrev pub EndsIf : Option Outcome → BodyState → List ℕ → Type 0
EndsIf (Some outcome) state rest = Stops state rest [] outcome
EndsIf None state rest = ⊤

-- what a reader that stands there makes of the bytes to come: the decoded body, and how it ends
pub data Runs : BodyState → List ℕ → List ℕ → Outcome → Type 0 where
  stops : (state : BodyState) (bytes decoded : List ℕ) (outcome : Outcome) → Stops state bytes decoded outcome
      → Runs state bytes decoded outcome
  goes : (state : BodyState) (bytes decoded : List ℕ) (outcome : Outcome) (next : BodyState) (first rest more : List ℕ)
      → Goes state bytes next first rest → decoded ≡ first ++ more → Runs next rest more outcome
      → Runs state bytes decoded outcome

-- the decoded bytes that the reader stands in: those that the Content-Length, or a size line, says are still to come
abbrev pub due : BodyState → ℕ
due (states.Fixed n) = n
due (states.Data n) = n
due state = 0

-- the same, once so many of them have come
abbrev pub less : BodyState → ℕ → BodyState
less (states.Fixed n) count = states.Fixed (n - count)
less (states.Data n) count = states.Data (n - count)
less state count = state

-- the reader moved on, by steps that gave nothing
pub data Skips : BodyState → List ℕ → BodyState → List ℕ → Type 0 where
  stays : (old : BodyState) (bytes : List ℕ) (new : BodyState) (rest : List ℕ) → old ≡ new → bytes ≡ rest
      → Skips old bytes new rest
  skips : (old : BodyState) (bytes : List ℕ) (new : BodyState) (rest : List ℕ) (last : BodyState) (behind : List ℕ)
      → Skips old bytes last behind → Goes last behind new [] rest → Skips old bytes new rest

-- the reader moved on by steps that gave nothing, and then took these bytes, as they are, of the data that it stood in
abbrev pub Moves : BodyState → List ℕ → List ℕ → BodyState → List ℕ → Type 0
Moves old bytes given new rest =
    (at : BodyState) × (behind : List ℕ) × Skips old bytes at behind × (length given ≤ due at)
    × (behind ≡ given ++ rest) × (new ≡ less at (length given))
