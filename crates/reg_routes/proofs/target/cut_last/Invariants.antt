use Rattle.std.proofs.Common.{◌≤◌, length, drop}
use Rattle.reg_routes.specs.Targets.{IsFree}
use Rattle.reg_routes.proofs.target.cut_last.Given as goal

-- no slash stands from here on
abbrev pub invariant-loop-end : goal.invariant-loop-end
invariant-loop-end l = record { within : l.end ≤ length l.text; free : IsFree (drop l.end l.text) }

abbrev pub decreases-loop-end : goal.decreases-loop-end
decreases-loop-end l = l.end
