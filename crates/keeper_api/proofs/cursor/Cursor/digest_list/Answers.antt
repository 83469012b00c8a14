use Rattle.std.proofs.Common.{option_copied}
use Rattle.keeper_api.proofs.PassLaws.{one_more_passed}
use Rattle.keeper_api.proofs.cursor.Cursor.digest_list.Goals as goal

pub loop-preserved : goal.loop-preserved
loop-preserved c =
    one_more_passed c.args.free c.loop.last (option_copied c.as_ref.result) c.in-Some.count c.loop.counter c.loop.self c.in-Some-item.digest c.item.new.self _ c.loop-test.true c.in-Some-item.ensures c.as_ref.ensures.value c.if-not-is_behind.ensures c.loop.invariant
