use Rattle.std.proofs.Common.{subst}
use Rattle.http_wire.specs.Flow.{stream, OnStream}
use Rattle.wire_speed.specs.declared.Next.{Next}
use Rattle.wire_speed.specs.InnerCounting.{IsNextRequest}
use Rattle.wire_speed.proofs.CountLaws.{counted_more, counted_last, counted_end}
use Rattle.wire_speed.proofs.requests.Goals as goal

pub returns-then-is_last : goal.returns-then-is_last
returns-then-is_last g c =
    let S = g.S.Source.left in
    let a = stream c.args.feed.now (S c.args.source.now) in
    let b = stream c.loop.feed (S c.loop.source) in
    let d = stream c.read_next.new.feed (S c.read_next.new.source) in
    let next = subst (λ (n : Next). OnStream b d (IsNextRequest c.args.way n)) c.in-Request.is c.in_ok-length.ensures.next in
    let more = c.in_ok-totals-in-Request in
    record {
      messages = counted_last c.args.way c.loop.totals a b d c.loop.invariant c.in-Request.length c.in-Request.is_last more.totals more.ensures.requests more.ensures.bytes next c.if-is_last.true;
    }

pub returns-in-End : goal.returns-in-End
returns-in-End g c =
    let S = g.S.Source.left in
    let a = stream c.args.feed.now (S c.args.source.now) in
    let b = stream c.loop.feed (S c.loop.source) in
    let d = stream c.read_next.new.feed (S c.read_next.new.source) in
    let next = subst (λ (n : Next). OnStream b d (IsNextRequest c.args.way n)) c.in-End.is c.in_ok-length.ensures.next in
    record { messages = counted_end c.args.way c.loop.totals a b d c.loop.invariant next }

pub loop-preserved : goal.loop-preserved
loop-preserved g c =
    let S = g.S.Source.left in
    let a = stream c.args.feed.now (S c.args.source.now) in
    let b = stream c.loop.feed (S c.loop.source) in
    let d = stream c.read_next.new.feed (S c.read_next.new.source) in
    let next = subst (λ (n : Next). OnStream b d (IsNextRequest c.args.way n)) c.in-Request.is c.in_ok-length.ensures.next in
    let more = c.in_ok-totals-in-Request in
    counted_more c.args.way c.loop.totals a b d c.loop.invariant c.in-Request.length c.in-Request.is_last more.totals more.ensures.requests more.ensures.bytes next c.if-is_last.false
