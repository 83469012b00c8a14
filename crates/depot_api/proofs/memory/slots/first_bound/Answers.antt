use Rattle.std.proofs.Common.{sym}
use Rattle.depot_api.proofs.RangeLaws.{starts_past_after, starts_behind_after}
use Rattle.depot_api.proofs.memory.slots.first_bound.Goals as goal

pub returns-then-lt : goal.returns-then-lt
returns-then-lt c =
    rw c.in-Some.is (starts_past_after c.args.under.now c.in-Some.after.now (sym c.if-lt.ensures))

pub returns-else-lt : goal.returns-else-lt
returns-else-lt c =
    rw c.in-Some.is (starts_behind_after c.args.under.now c.in-Some.after.now (sym c.if-lt.ensures))
