use Rattle.std.proofs.Common.{◌≡◌, ◌≤◌, ◌-◌, length}
use Rattle.std.specs.Io.KnownBytes.{Keeps}
use Rattle.http_wire.specs.Answers.{IsHeadOpen}
use Rattle.http_wire.specs.Flow.{stream, spent, Counts}
use Rattle.http_wire.proofs.reading.read_head.Given as goal

-- no byte was lost, and the counts are right
abbrev pub invariant-loop-head : goal.invariant-loop-head
invariant-loop-head g l =
    Keeps (stream l.initial.feed (g.S.Source.left l.initial.source)) (stream l.feed (g.S.Source.left l.source))
    × (g.S.Source.faults l.initial.source ≤ g.S.Source.faults l.source)
    × (spent l.feed ≡ spent l.initial.feed)
    × (¬ (IsHeadOpen l.initial.feed.pending) → (l.source ≡ l.initial.source) × (l.feed ≡ l.initial.feed))
    × Counts l.initial.feed (g.S.Source.given l.initial.source) l.feed (g.S.Source.given l.source)

-- the room that is left
abbrev pub decreases-loop-head : goal.decreases-loop-head
decreases-loop-head g l = 16384 - length l.feed.pending
