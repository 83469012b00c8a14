use Rattle.std.proofs.Common.{◌≡◌, ◌+◌, ◌≤◌}
use Rattle.http_wire.specs.Filling.{Extends}
use Rattle.http_wire.specs.Flow.{stream, spent, OnStream, Counts}
use Rattle.http_wire.proofs.StagingLaws.{Filled, Leaves, BodyAtHand}
use Rattle.http_wire.proofs.taking.take_body.Given as goal

-- what was staged is what the reader moved on over, and so much may still come
abbrev pub invariant-loop-left : goal.invariant-loop-left
invariant-loop-left g l =
    OnStream (stream l.initial.feed (g.S.Source.left l.initial.source)) (stream l.feed (g.S.Source.left l.source))
    (Filled l.most l.room l.initial.body.state l.body.state (g.T.Stage.held l.initial.stage) (g.T.Stage.held l.stage))
    × (l.room ≤ l.most)
    × ((g.T.Stage.held l.stage).count + l.room ≡ (g.T.Stage.held l.initial.stage).count + l.most)
    × Extends (g.T.Stage.held l.initial.stage) (g.T.Stage.held l.stage)
    × (g.S.Source.faults l.initial.source ≤ g.S.Source.faults l.source)
    × (g.T.Stage.faults l.initial.stage ≤ g.T.Stage.faults l.stage)
    × Counts l.initial.feed (g.S.Source.given l.initial.source) l.feed (g.S.Source.given l.source)
    × BodyAtHand l.initial.source l.source l.most l.room l.initial.body.state l.initial.feed.pending l.body.state l.feed.pending
    × (spent l.initial.feed ≤ spent l.feed)
    × Leaves l.most l.room l.initial.body.state l.body.state

-- so much may still come
abbrev pub decreases-loop-left : goal.decreases-loop-left
decreases-loop-left g l = l.room
