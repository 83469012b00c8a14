-- The proof's own: no public clause cites what stands here.
-- What the bytes that have come are known to be, of a head.
use Rattle.std.specs.Prelude.{◌≡◌, ℕ, ◌≤◌, ◌<◌, ◌⊎◌, true, false, List, drop, length, Option, Some, None, Result, Ok, Err, ⊤}
use Rattle.http_wire.specs.Limits.{field_limit, head_limit}
use Rattle.std.specs.List.{list_all}
use Rattle.httparse.specs.Pieces.{is_newline}
use Rattle.httparse.specs.Grammar.{RequestHead, ReadsRequest, print_request}
use Rattle.httparse.specs.declared.spans.HeaderSpan.{HeaderSpan}
use Rattle.httparse.specs.declared.spans.RequestSpans.{RequestSpans}
use Rattle.httparse.specs.Spans.{IsRequestOf, IsRequestWithin}
use Rattle.http_wire.specs.declared.head.Heading.{Heading}
use Rattle.http_wire.specs.declared.head.Heading.TheVariants as headings
use Rattle.http_wire.specs.declared.head.Head.{Head}
use Rattle.http_wire.specs.Answers.{malformed, too_large}
use Rattle.http_wire.specs.Fields.{Shows}
use Rattle.http_wire.specs.Heads.{HasManyFields, IsHopeless, IsOpen}

-- the answer refuses the bytes, or says nothing of them
abbrev pub Refuses : Heading → List ℕ → Type 0
Refuses (headings.Bad number) bytes =
    ((number ≡ malformed) × IsHopeless bytes)
    ⊎ ((number ≡ too_large) × (((length bytes ≡ head_limit) × IsOpen bytes) ⊎ HasManyFields bytes))
Refuses headings.NoMemory bytes = ⊤
Refuses answer bytes = ⊥

-- a head of so many bytes, the front of one, or a refused one
abbrev pub Judges : Result (Option (Head × ℕ)) Heading → List ℕ → Type 0
Judges (Ok (Some (head, count))) bytes =
    (h : RequestHead) × Shows head h × ReadsRequest bytes h (drop count bytes) × (count ≡ length (print_request h))
    × (length h.fields ≤ field_limit) × (count ≤ length bytes)
Judges (Ok None) bytes = IsOpen bytes × (length bytes < head_limit)
Judges (Err answer) bytes = Refuses answer bytes

-- what the bytes were parsed as
abbrev pub Parses : Result (Option RequestSpans) Heading → List HeaderSpan → List ℕ → Type 0
Parses (Ok (Some found)) spans bytes = IsRequestWithin bytes spans found × IsRequestOf bytes spans found
Parses (Ok None) spans bytes = IsOpen bytes
Parses (Err answer) spans bytes = (answer ≡ headings.Bad malformed) × IsHopeless bytes

-- whether bytes at whose end the input ends are CR and LF alone
abbrev pub EndsAs : Heading → List ℕ → Type 0
EndsAs answer bytes =
    ((list_all is_newline bytes ≡ true) × (answer ≡ headings.End))
    ⊎ ((list_all is_newline bytes ≡ false) × (answer ≡ headings.Cut))
