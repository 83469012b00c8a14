-- What is counted of a stream.
use Rattle.std.specs.Prelude.{◌≡◌, ℕ, List, length, Option, Some, None}
use Rattle.std.specs.List.{sum_by}
use Rattle.depot_api.specs.Limits.{file_limit}
use Rattle.http_wire.specs.Messages.{Message, Ending, Limits, Messages}
use Rattle.wire_speed.specs.declared.Totals.{Totals}
use Rattle.wire_speed.specs.declared.Way.{Way}
use Rattle.wire_speed.specs.declared.Way.TheVariants as ways

-- how many bytes the bodies have
abbrev pub body_bytes : List Message → ℕ
body_bytes messages = sum_by (λ m. length m.body) messages

-- the most bytes of a body: any number where it is read, and those of the longest file where it is staged
abbrev pub limit_of : Way → Option ℕ
limit_of ways.Read = None
limit_of ways.Stage = Some file_limit

-- the same of each request
abbrev pub limits_of : Way → Limits
limits_of way number head = limit_of way

-- so many messages, with so many bytes of bodies
abbrev pub IsCounted : Way → Totals → List ℕ → Type 0
IsCounted way totals bytes =
    (messages : List Message) × (ending : Ending) × Messages (limits_of way) bytes messages ending
    × (length messages ≡ totals.requests) × (body_bytes messages ≡ totals.bytes)
