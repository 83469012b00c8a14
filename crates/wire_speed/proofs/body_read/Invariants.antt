use Rattle.http_wire.specs.Flow.{stream, OnStream}
use Rattle.wire_speed.proofs.CountLaws.{Read}
use Rattle.wire_speed.proofs.body_read.Given as goal

-- the bytes so far were read
abbrev pub invariant-loop : goal.invariant-loop
invariant-loop g l =
    OnStream (stream l.initial.feed (g.S.Source.left l.initial.source)) (stream l.feed (g.S.Source.left l.source)) (Read l.initial.body.state l.body.state l.bytes)
