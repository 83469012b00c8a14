use Rattle.std.proofs.Common.{◌≡◌, ◌≤◌, ◌++◌}
use Rattle.std.specs.Prelude.{IsTrue}
use Rattle.std.specs.List.{repeat}
use Rattle.disk_writes.proofs.writes.append_times.Given as goal

-- the pieces so far stand behind what was staged before
abbrev pub invariant-loop : goal.invariant-loop
invariant-loop g l = record {
  path : (g.S.Stage.held l.stage).path ≡ (g.S.Stage.held l.fn.stage).path;
  tells : (g.S.Stage.held l.stage).tells ≡ (g.S.Stage.held l.fn.stage).tells;
  bytes : IsTrue (g.S.Stage.held l.fn.stage).tells → (g.S.Stage.held l.stage).bytes ≡ (g.S.Stage.held l.fn.stage).bytes ++ repeat l.counter l.piece;
  later : g.S.Stage.faults l.fn.stage ≤ g.S.Stage.faults l.stage;
}
