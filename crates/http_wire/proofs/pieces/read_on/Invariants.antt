use Rattle.std.proofs.Common.{◌≡◌, ◌≤◌, ◌<◌, ◌-◌, length}
use Rattle.std.specs.Io.KnownBytes.{Keeps}
use Rattle.http_wire.specs.Flow.{stream, spent, IsBounded, Counts}
use Rattle.http_wire.proofs.pieces.read_on.Given as goal

-- no byte was lost, and the counts are right; where nothing came, nothing changed
abbrev pub invariant-loop-feed : goal.invariant-loop-feed
invariant-loop-feed g l =
    Keeps (stream l.initial.feed (g.S.Source.left l.initial.source)) (stream l.feed (g.S.Source.left l.source))
    × (g.S.Source.faults l.initial.source ≤ g.S.Source.faults l.source)
    × (spent l.feed ≡ spent l.initial.feed)
    × Counts l.initial.feed (g.S.Source.given l.initial.source) l.feed (g.S.Source.given l.source)
    × IsBounded l.feed
    × (length l.feed.pending < 16384)
    × (l.seen ≡ length l.feed.pending)
    × (length l.initial.feed.pending ≤ l.seen)
    × (l.seen ≤ length l.initial.feed.pending → l.feed ≡ l.initial.feed)

-- the room that is left
abbrev pub decreases-loop-feed : goal.decreases-loop-feed
decreases-loop-feed g l = 16384 - length l.feed.pending
