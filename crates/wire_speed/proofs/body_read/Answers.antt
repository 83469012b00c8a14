use Rattle.std.proofs.Common.{◌≡◌, ◌+◌, ℕ, sym, subst, arith}
use Rattle.http_wire.specs.Flow.{stream, OnStream}
use Rattle.wire_speed.proofs.CountLaws.{Read, read_none, read_more, read_end}
use Rattle.wire_speed.proofs.body_read.Goals as goal

pub loop-init : goal.loop-init
loop-init g c = read_none c.new-body.result.state (stream c.args.feed.now (g.S.Source.left c.args.source.now))

pub loop-preserved : goal.loop-preserved
loop-preserved g c =
    let S = g.S.Source.left in
    let a = stream c.args.feed.now (S c.args.source.now) in
    let b = stream c.loop.feed (S c.loop.source) in
    let d = stream c.read_body.new.feed (S c.read_body.new.source) in
    let first = c.new-body.result.state in
    let next = c.read_body.new.body.state in
    let n = c.in-Bytes.count in
    let is : c.in_ok-bytes-in-Bytes.bytes ≡ c.loop.bytes + n = omega (arith, c.in_ok-bytes-in-Bytes.ensures) in
    subst (λ (k : ℕ). OnStream a d (Read first next k)) (sym is)
    (read_more first c.loop.body.state next c.loop.bytes a b d c.loop.invariant n c.read_body.new.into c.in-Bytes.ensures.some.0 c.in-Bytes.ensures.moved)

pub returns-in-End : goal.returns-in-End
returns-in-End g c =
    let S = g.S.Source.left in
    let a = stream c.args.feed.now (S c.args.source.now) in
    let b = stream c.loop.feed (S c.loop.source) in
    let d = stream c.read_body.new.feed (S c.read_body.new.source) in
    record {
      body = read_end c.new-body.result.state c.loop.body.state c.read_body.new.body.state c.loop.bytes a b d c.loop.invariant c.args.framing c.new-body.ensures
          c.in-End.ensures.moved c.in-End.ensures.ended;
    }
