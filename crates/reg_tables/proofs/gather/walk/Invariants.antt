use Rattle.std.proofs.Common.{◌∷◌}
use Rattle.std.specs.Prelude.{IsTrue, option_copied}
use Rattle.reg_names.specs.Cause.{OnlyReads}
use Rattle.reg_tables.proofs.GatherLaws.{Walked}
use Rattle.reg_tables.proofs.gather.walk.Given as goal

-- what was found as far as the bound
abbrev pub invariant-loop : goal.invariant-loop
invariant-loop g l = record {
  reads : OnlyReads g.K.Keeper.kept g.K.Keeper.faults l.fn.keeper l.keeper ⊥;
  walked : IsTrue (g.K.Keeper.kept l.fn.keeper).tells → Walked (l.table ∷ l.front) (option_copied l.wanted) (g.K.Keeper.kept l.fn.keeper).rows l.bound.items l.parts.items;
}
