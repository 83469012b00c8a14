use Rattle.std.proofs.Common.{◌≤◌}
use Rattle.http_wire.specs.Flow.{stream, spent, OnStream, Counts}
use Rattle.http_wire.proofs.BodyLaws.{rank}
use Rattle.http_wire.proofs.MovingLaws.{Skipped, Follows, AtHand}
use Rattle.http_wire.proofs.reach.reach_data.Given as goal

-- the reader skipped to where it stands, and the counts are right
abbrev pub invariant-loop-body : goal.invariant-loop-body
invariant-loop-body g l =
    OnStream (stream l.initial.feed (g.S.Source.left l.initial.source)) (stream l.feed (g.S.Source.left l.source)) (Skipped l.initial.body.state l.body.state)
    × (g.S.Source.faults l.initial.source ≤ g.S.Source.faults l.source)
    × (spent l.initial.feed ≤ spent l.feed)
    × Counts l.initial.feed (g.S.Source.given l.initial.source) l.feed (g.S.Source.given l.source)
    × AtHand l.initial.source l.source l.initial.body.state l.initial.feed.pending l.body.state l.feed.pending
    × Follows l.initial.body.state l.body.state

-- how many pieces can come before data, or the end
abbrev pub decreases-loop-body : goal.decreases-loop-body
decreases-loop-body g l = rank l.body.state
