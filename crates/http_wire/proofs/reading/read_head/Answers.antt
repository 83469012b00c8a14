use Rattle.std.proofs.Common.{◌∙◌, ap, sym, subst, arith, ◌<◌, drop, ℕ, Option, Ok, Err, None}
use Rattle.http_wire.specs.declared.head.Head.{Head}
use Rattle.std.proofs.KnownBytes.{Keeps-trans}
use Rattle.std.specs.Io.KnownBytes.{Keeps}
use Rattle.http_wire.specs.InnerHeads.{Judges, EndsAs}
use Rattle.http_wire.specs.Flow.{Flow, stream}
use Rattle.http_wire.proofs.StreamLaws.{ends, moved_on}
use Rattle.http_wire.proofs.HeadLaws.{head_is_some}
use Rattle.http_wire.proofs.reading.read_head.Goals as goal

pub returns-in-Err-Ended-clause-answer : goal.returns-in-Err-Ended-clause-answer
returns-in-Err-Ended-clause-answer g c =
    let before = stream c.args.feed.now (g.S.Source.left c.args.source.now) in
    let was = g.S.Source.left c.loop-head.source in
    let left = g.S.Source.left c.refill.new.source in
    let now = c.refill.new.self in
    let same = c.in-Err-Ended.ensures.kept ∙ c.judge.ensures.kept in
    let step = subst (λ (v : Flow). Keeps (stream v was) (stream now left)) c.judge.ensures.kept c.refill.ensures.bytes in
    let kept = Keeps-trans before (stream c.loop-head.feed was) (stream now left) c.loop-head.invariant.0 step in
    let is_open = subst (λ (v : Flow). Judges (Ok None) v.pending) (sym same) (subst (λ (o : Option (Head × ℕ)). Judges (Ok o) c.loop-head.feed.pending) c.in-Ok-None.field-0-is c.in-Ok-None.ensures.judged) in
    let ended = subst (EndsAs c.ended.result) c.pending.ensures.bytes c.ended.ensures in
    ends before left now.pending c.ended.result kept (c.in-Err-Ended.ensures.ended (ap Err c.in-Err-Ended.field-0-is)) is_open ended

pub returns-in-Ok-Some-clause-heads : goal.returns-in-Ok-Some-clause-heads
returns-in-Ok-Some-clause-heads g c =
    let judged = subst (λ (o : Option (Head × ℕ)). Judges (Ok o) c.loop-head.feed.pending) c.in-Ok-Some.field-0-is c.in-Ok-Some.ensures.judged in
    let kept = c.judge.ensures.kept in
    let count = c.in-Ok-Some.count in
    let some : 0 < count = omega (arith, judged.3, head_is_some c.loop-head.feed.pending judged.0 (drop count c.loop-head.feed.pending) judged.2) in
    let more = moved_on c.args.feed.now c.loop-head.feed c.skip.new.self count c.loop-head.invariant.2 c.judge.ensures.bounded some judged.5
    (c.skip.ensures.pending ∙ ap (λ (v : Flow). drop count v.pending) kept) (c.skip.ensures.taken ∙ ap (λ (v : Flow). v.taken) kept) in
    omega (arith, more)
