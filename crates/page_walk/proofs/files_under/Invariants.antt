use Rattle.std.proofs.Common.{◌≡◌, ◌≤◌}
use Rattle.std.specs.Prelude.{IsTrue}
use Rattle.page_walk.proofs.WalkLaws.{IsWalked}
use Rattle.page_walk.proofs.files_under.Given as goal

-- the pages so far changed nothing, and are counted
abbrev pub invariant-loop : goal.invariant-loop
invariant-loop g l = record {
  held : g.D.Depot.held l.depot ≡ g.D.Depot.held l.fn.depot;
  later : g.D.Depot.faults l.fn.depot ≤ g.D.Depot.faults l.depot;
  walked : IsTrue (g.D.Depot.held l.fn.depot).tells → IsWalked (g.D.Depot.held l.fn.depot).files l.fn.under l.last l.files;
}
