use Rattle.std.proofs.Common.{◌∷◌}
use Rattle.reg_tables.proofs.GatherLaws.{PutSoFar}
use Rattle.reg_tables.proofs.gather.add_put.Given as goal

-- those of the keys so far
abbrev pub invariant-loop-key : goal.invariant-loop-key
invariant-loop-key l = PutSoFar (l.table ∷ l.front) l.fn.parts.items l.pending l.parts.items l.key-iterator
