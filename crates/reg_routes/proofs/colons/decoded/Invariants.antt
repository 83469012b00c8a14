use Rattle.std.proofs.Common.{◌≡◌, ◌≤◌, ◌-◌, ◌++◌, length, drop}
use Rattle.reg_routes.specs.Colons.{with_colons}
use Rattle.reg_routes.proofs.colons.decoded.Given as goal

-- what was decoded, and what the rest stands for
abbrev pub invariant-loop-at : goal.invariant-loop-at
invariant-loop-at l = record {
  within : l.at ≤ length l.path;
  so_far : l.bytes.items ++ with_colons (drop l.at l.path) ≡ with_colons l.path;
}

abbrev pub decreases-loop-at : goal.decreases-loop-at
decreases-loop-at l = length l.path - l.at
