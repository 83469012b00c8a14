-- What a stream of bytes begins with (RFC 9112, sections 2 to 5): a head, nothing more, the front of a head, or
-- neither.
-- Each is said of some front of the stream, so it does not depend on where the stream was cut.
use Rattle.std.specs.Prelude.{◌≡◌, ℕ, ◌<◌, ◌≤◌, ◌⊎◌, Bool, true, false, ◌==◌, if◌then◌else◌, List, [], ◌∷◌, ◌++◌, length}
use Rattle.http_wire.specs.Limits.{field_limit, head_limit}
use Rattle.std.specs.List.{list_all, list_any}
use Rattle.httparse.specs.Grammar.{RequestHead, print_request, ReadsRequest, HasNoRequest, NeverHasRequest}
use Rattle.httparse.specs.Pieces.{is_newline}

-- a line feed stands past the leading CR and LF bytes
abbrev pub has_line : List ℕ → Bool
has_line [] = false
has_line (b ∷ bytes) = if is_newline b then has_line bytes else list_any (λ c. c == 10) bytes

-- some bytes can follow after which a head stands at the front
abbrev pub MayHaveRequest : List ℕ → Type 0
MayHaveRequest bytes = (more : List ℕ) × (h : RequestHead) × (rest : List ℕ) × ReadsRequest (bytes ++ more) h rest

-- a line has come, and whatever follows no head stands at the front
abbrev pub IsHopeless : List ℕ → Type 0
IsHopeless bytes = (has_line bytes ≡ true) × NeverHasRequest bytes

-- no head stands at the front; once a line has come, one still may
abbrev pub IsOpen : List ℕ → Type 0
IsOpen bytes = HasNoRequest bytes × (has_line bytes ≡ true → MayHaveRequest bytes)

-- a head of at most 16,384 bytes, and then the rest
abbrev pub BeginsWithHead : List ℕ → RequestHead → List ℕ → Type 0
BeginsWithHead bytes h rest = ReadsRequest bytes h rest × (length (print_request h) ≤ head_limit)

-- a front of at most 16,384 bytes is hopeless
abbrev pub IsMalformed : List ℕ → Type 0
IsMalformed bytes =
    (begin : List ℕ) × (rest : List ℕ) × (bytes ≡ begin ++ rest) × (length begin ≤ head_limit) × IsHopeless begin

-- the first 16,384 bytes are open
abbrev pub IsOverfull : List ℕ → Type 0
IsOverfull bytes =
    (begin : List ℕ) × (rest : List ℕ) × (bytes ≡ begin ++ rest) × (length begin ≡ head_limit) × IsOpen begin

-- a head with more than 64 fields
abbrev pub HasManyFields : List ℕ → Type 0
HasManyFields bytes =
    (h : RequestHead) × (rest : List ℕ) × BeginsWithHead bytes h rest × (field_limit < length h.fields)

-- fewer bytes, CR and LF alone
abbrev pub IsNothing : List ℕ → Type 0
IsNothing bytes = (length bytes < head_limit) × (list_all is_newline bytes ≡ true)

-- fewer bytes, not CR and LF alone, and open
abbrev pub IsCutHead : List ℕ → Type 0
IsCutHead bytes = (length bytes < head_limit) × IsOpen bytes × (list_all is_newline bytes ≡ false)

-- what can be said of a stream
pub data Verdict : Type 0 where
  begins : RequestHead → List ℕ → Verdict
  is_nothing is_cut is_malformed is_too_large : Verdict

-- that it is so
abbrev pub Holds : List ℕ → Verdict → Type 0
Holds bytes (begins h rest) = BeginsWithHead bytes h rest × (length h.fields ≤ field_limit)
Holds bytes is_nothing = IsNothing bytes
Holds bytes is_cut = IsCutHead bytes
Holds bytes is_malformed = IsMalformed bytes
Holds bytes is_too_large = IsOverfull bytes ⊎ HasManyFields bytes
