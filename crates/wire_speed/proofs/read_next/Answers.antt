use Rattle.http_wire.specs.Flow.{stream}
use Rattle.wire_speed.proofs.CountLaws.{next_message}
use Rattle.wire_speed.proofs.read_next.Goals as goal

pub returns-in_ok-length-in-Head : goal.returns-in_ok-length-in-Head
returns-in_ok-length-in-Head g c =
    let S = g.S.Source.left in
    record {
      next = next_message c.args.way c.in-Head.head c.framing.result c.in_ok-length-in-Head.length c.ends_connection-is_last.result (stream c.args.feed.now (S c.args.source.now))
          (stream c.read_head.new.feed (S c.read_head.new.source)) (stream c.body_length.new.feed (S c.body_length.new.source)) c.framing.ensures c.ends_connection-is_last.ensures
          c.in-Head.ensures.answer c.in_ok-length-in-Head.ensures.body;
    }
