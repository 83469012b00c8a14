use Rattle.std.proofs.Common.{◌-◌, ◌+◌, ◌≡◌, arith}
use Rattle.reg_routes.proofs.CuttingLaws.{cut_seen, not_seen}
use Rattle.reg_routes.proofs.target.cut_last.Goals as goal

pub returns-then-text-end-eq47 : goal.returns-then-text-end-eq47
returns-then-text-end-eq47 c =
    let last : c.loop-end.end - 1 + 1 ≡ c.loop-end.end = omega (arith, c.loop-end-test.true) in
    cut_seen c.args.text.now (c.loop-end.end - 1) (omega (arith, c.loop-end-test.true, c.loop-end.invariant.within)) c.if-text-end-eq47.true (rw last c.loop-end.invariant.free)

pub returns : goal.returns
returns c = not_seen c.args.text.now c.loop-end.end c.loop-end-test.false c.loop-end.invariant.free
