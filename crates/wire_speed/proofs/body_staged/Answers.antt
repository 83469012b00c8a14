use Rattle.std.proofs.Common.{ap, sym}
use Rattle.depot_api.specs.MemStage.{stage_held}
use Rattle.http_wire.specs.Flow.{stream}
use Rattle.wire_speed.proofs.CountLaws.{staged_length}
use Rattle.wire_speed.proofs.body_staged.Goals as goal

pub returns-in-Whole : goal.returns-in-Whole
returns-in-Whole g c =
    let S = g.S.Source.left in
    record {
      body = staged_length c.args.framing c.new-2.result.state c.take_body.new.body.state c.in-Whole.length (stage_held c.new-stage.result) (stage_held c.take_body.new.stage) (stream c.args.feed.now (S c.args.source.now))
          (stream c.take_body.new.feed (S c.take_body.new.source)) c.new-2.ensures c.in-Whole.ensures.too_long c.in-Whole.ensures.moved c.in-Whole.ensures.ended;
    }
