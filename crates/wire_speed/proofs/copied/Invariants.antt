use Rattle.std.proofs.Common.{◌≤◌}
use Rattle.wire_speed.proofs.copied.Given as goal

-- no count of faults fell
abbrev pub invariant-loop : goal.invariant-loop
invariant-loop g l = g.S.Source.faults l.initial.source ≤ g.S.Source.faults l.source
