use Rattle.std.proofs.Common.{◌∙◌, ap, sym, subst, List, ℕ, drop, Option, Ok}
use Rattle.http_wire.specs.declared.body.BodyState.{BodyState}
use Rattle.std.specs.Io.KnownBytes.{prepend_known}
use Rattle.http_wire.specs.InnerPieces.{JudgesFront, TakesPiece}
use Rattle.http_wire.specs.Flow.{Flow, stream, OnStream}
use Rattle.http_wire.proofs.TakingLaws.{piece_found}
use Rattle.http_wire.proofs.pieces.take_piece.Goals as goal

pub returns-in-Some-clause-answer : goal.returns-in-Some-clause-answer
returns-in-Some-clause-answer g c =
    let before = stream c.args.feed.now (g.S.Source.left c.args.source.now) in
    let left = g.S.Source.left c.loop-next.source in
    let next = c.in-Some.next in
    let count = c.in-Some.count in
    subst (λ (q : List ℕ). OnStream before (prepend_known q left) (TakesPiece (Ok next) c.args.piece))
    (sym (c.skip.ensures.pending ∙ ap (λ (v : Flow). drop count v.pending) c.judge_piece.ensures.kept))
    (piece_found before left c.loop-next.feed.pending c.args.piece next count c.loop-next.invariant.0
    (subst (λ (o : Option (BodyState × ℕ)). JudgesFront (Ok o) c.args.piece c.loop-next.feed.pending) c.in-Some.is c.in_ok-next.ensures.judged))
