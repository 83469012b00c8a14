use Rattle.http_wire.specs.Flow.{stream, OnStream}
use Rattle.wire_speed.proofs.CountLaws.{Counted}
use Rattle.wire_speed.proofs.requests.Given as goal

-- the messages so far were counted
abbrev pub invariant-loop : goal.invariant-loop
invariant-loop g l =
    OnStream (stream l.initial.feed (g.S.Source.left l.initial.source)) (stream l.feed (g.S.Source.left l.source)) (Counted l.way l.totals.requests l.totals.bytes)
