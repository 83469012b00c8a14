use Rattle.std.proofs.Common.{◌≡◌, ◌≤◌, ◌-◌, ◌++◌, take, drop, length}
use Rattle.std.specs.Prelude.{not, filter}
use Rattle.reg_claims.specs.Claims.{claim_of, is_same}
use Rattle.reg_claims.proofs.claims.take_out.Given as goal

-- what was looked at is kept, and the rest gives what is to be left
abbrev pub invariant-loop-at : goal.invariant-loop-at
invariant-loop-at l = record {
  within : l.at ≤ length l.standing.items;
  rest : take l.at l.standing.items ++ filter (λ s. not (is_same (claim_of l.held) s.claim)) (drop l.at l.standing.items) ≡ filter (λ s. not (is_same (claim_of l.held) s.claim)) l.fn.standing.items;
}

abbrev pub decreases-loop-at : goal.decreases-loop-at
decreases-loop-at l = length l.standing.items - l.at
