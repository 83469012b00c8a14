-- What an answer on a head says of the stream, before the call and after it.
use Rattle.std.specs.Prelude.{◌≡◌, ℕ, ◌⊎◌, List, ⊤}
use Rattle.httparse.specs.Grammar.{RequestHead}
use Rattle.http_wire.specs.declared.head.Head.{Head}
use Rattle.http_wire.specs.declared.head.Heading.{Heading}
use Rattle.http_wire.specs.declared.head.Heading.TheVariants as headings
use Rattle.http_wire.specs.Fields.{Shows}
use Rattle.http_wire.specs.Heads.{begins, is_nothing, is_cut, is_malformed, is_too_large, Holds}

-- P of the head, if the answer is one
abbrev pub IfHead : Heading → (Head → Type 0) → Type 0
IfHead (headings.Head head) P = P head
IfHead answer P = ⊤

-- P of the number, if the answer is a refusal
abbrev pub IfBad : Heading → (ℕ → Type 0) → Type 0
IfBad (headings.Bad number) P = P number
IfBad answer P = ⊤

-- the numbers of the refusals: of a malformed head, and of one that is too large
abbrev pub malformed : ℕ
malformed = 18

abbrev pub too_large : ℕ
too_large = 19

-- why a head is refused, by the number of the refusal
abbrev pub IsBadHead : List ℕ → ℕ → Type 0
IsBadHead bytes number =
    ((number ≡ malformed) × Holds bytes is_malformed) ⊎ ((number ≡ too_large) × Holds bytes is_too_large)

-- a head was taken off the stream; else the stream is as it was
abbrev pub TellsHead : Heading → List ℕ → List ℕ → Type 0
TellsHead (headings.Head head) old new = (h : RequestHead) × Holds old (begins h new) × Shows head h
TellsHead headings.End old new = Holds old is_nothing × (new ≡ old)
TellsHead headings.Cut old new = Holds old is_cut × (new ≡ old)
TellsHead (headings.Bad number) old new = IsBadHead old number × (new ≡ old)
TellsHead answer old new = new ≡ old

-- the input ended
abbrev pub IsEndOfInput : Heading → Type 0
IsEndOfInput answer = (answer ≡ headings.End) ⊎ (answer ≡ headings.Cut)

-- bytes that are neither a head nor refused yet: more have to come
abbrev pub IsHeadOpen : List ℕ → Type 0
IsHeadOpen bytes = Holds bytes is_nothing ⊎ Holds bytes is_cut
