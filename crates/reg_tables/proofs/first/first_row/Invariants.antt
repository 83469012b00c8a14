use Rattle.std.proofs.Common.{◌≡◌, ◌≤◌}
use Rattle.std.specs.Prelude.{IsTrue}
use Rattle.reg_tables.specs.InnerFirsts.{AreEmptyBelow}
use Rattle.reg_tables.proofs.first.first_row.Given as goal

-- the tables so far have no row, and nothing changed
abbrev pub invariant-loop-table : goal.invariant-loop-table
invariant-loop-table g l = record {
  kept : g.K.Keeper.kept l.keeper ≡ g.K.Keeper.kept l.fn.keeper;
  later : g.K.Keeper.faults l.fn.keeper ≤ g.K.Keeper.faults l.keeper;
  empty : IsTrue (g.K.Keeper.kept l.fn.keeper).tells → AreEmptyBelow l.table (g.K.Keeper.kept l.fn.keeper).rows;
}
