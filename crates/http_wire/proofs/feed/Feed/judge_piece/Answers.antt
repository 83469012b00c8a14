use Rattle.std.proofs.Common.{◌∙◌, ◌+◌, ap, subst, List, ℕ, min, slice_range, arith}
use Rattle.http_wire.specs.Flow.{Flow}
use Rattle.http_wire.specs.InnerPieces.{JudgesPiece}
use Rattle.http_wire.proofs.TakingLaws.{front_judged, front_fits}
use Rattle.http_wire.proofs.feed.Feed.judge_piece.Goals as goal

pub returns-clause-judged : goal.returns-clause-judged
returns-clause-judged c =
    let f = c.self.inside in
    let middle = c.min-end.result in
    front_judged c.judge_piece.result c.args.piece f.buffer.items c.args.self.now.pending f.start f.end middle c.self.invariant.0
    (omega (arith, c.self.invariant.1, c.self.invariant.2))
    (c.min-end.ensures ∙ ap (λ (k : ℕ). min f.end (f.start + k)) c.limit.ensures) (ap (λ (v : Flow). v.pending) c.self.view_is)
    (subst (λ (l : List ℕ). JudgesPiece c.judge_piece.result c.args.piece (slice_range l f.start middle)) c.deref.ensures.value c.judge_piece.ensures)

pub returns-clause-fits : goal.returns-clause-fits
returns-clause-fits c = front_fits c.judge_piece.result c.args.piece c.args.self.now.pending (returns-clause-judged c)
