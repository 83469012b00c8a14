-- The proof's own: no public clause cites what stands here.
-- What comes next on a stream, and how long a body is.
use Rattle.std.specs.Prelude.{◌≡◌, ℕ, List, [], length}
use Rattle.http_wire.specs.declared.head.Framing.{Framing}
use Rattle.http_wire.specs.Bodies.{ends_before}
use Rattle.http_wire.specs.BodyAnswers.{first_state}
use Rattle.http_wire.specs.Filling.{within}
use Rattle.http_wire.specs.Messages.{Message, Messages, ReadsBody, ReadsMessage, is_last, is_complete}
use Rattle.wire_speed.specs.declared.Next.{Next}
use Rattle.wire_speed.specs.declared.Next.TheVariants as nexts
use Rattle.wire_speed.specs.declared.Way.{Way}
use Rattle.wire_speed.specs.Counting.{limit_of, limits_of}

-- the bytes begin with a body of so many decoded bytes, and then the rest
abbrev pub HasLength : Way → Framing → ℕ → List ℕ → List ℕ → Type 0
HasLength way framing count bytes rest =
    (body : List ℕ) × ReadsBody (limit_of way) (first_state framing) bytes body (within (ends_before rest))
    × (length body ≡ count)

-- what comes next: a message, or nothing more
abbrev pub IsNextRequest : Way → Next → List ℕ → List ℕ → Type 0
IsNextRequest way (nexts.Request count last) bytes rest =
    (m : Message) × ReadsMessage (limit_of way) bytes m rest × (length m.body ≡ count) × (is_last m ≡ last)
IsNextRequest way nexts.End bytes rest = Messages (limits_of way) bytes [] is_complete
