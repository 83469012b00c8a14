use Rattle.std.proofs.Common.{◌≡◌, ◌≤◌, ◌⊎◌, ◌-◌, length}
use Rattle.std.specs.Io.KnownBytes.{Keeps}
use Rattle.http_wire.specs.Bodies.{IsCutAt}
use Rattle.http_wire.specs.Flow.{stream, spent, Counts}
use Rattle.http_wire.proofs.pieces.take_piece.Given as goal

-- no byte was lost, and the counts are right
abbrev pub invariant-loop-next : goal.invariant-loop-next
invariant-loop-next g l =
    Keeps (stream l.initial.feed (g.S.Source.left l.initial.source)) (stream l.feed (g.S.Source.left l.source))
    × (g.S.Source.faults l.initial.source ≤ g.S.Source.faults l.source)
    × (spent l.feed ≡ spent l.initial.feed)
    × (((l.source ≡ l.initial.source) × (l.feed ≡ l.initial.feed)) ⊎ IsCutAt l.piece l.initial.feed.pending)
    × Counts l.initial.feed (g.S.Source.given l.initial.source) l.feed (g.S.Source.given l.source)

-- the room that is left
abbrev pub decreases-loop-next : goal.decreases-loop-next
decreases-loop-next g l = 16384 - length l.feed.pending
