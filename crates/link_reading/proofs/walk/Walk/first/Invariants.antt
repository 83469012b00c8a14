use Rattle.std.proofs.Common.{◌≡◌, ◌≤◌}
use Rattle.std.specs.Prelude.{IsTrue}
use Rattle.link_reading.specs.InnerSpots.{spot}
use Rattle.link_reading.specs.InnerWalks.{IsReady}
use Rattle.link_reading.proofs.WalkLaws.{Passed}
use Rattle.link_reading.proofs.walk.Walk.first.Given as goal

-- nothing of what was passed is wanted, and the walk is ready to go on
abbrev pub invariant-loop : goal.invariant-loop
invariant-loop g l =
    let files = (g.D.Depot.held l.fn.depot).files in
    record {
      held : g.D.Depot.held l.depot ≡ g.D.Depot.held l.fn.depot;
      later : g.D.Depot.faults l.fn.depot ≤ g.D.Depot.faults l.depot;
      folder : l.self.folder ≡ l.fn.self.folder;
      quest : g.S.Seek.quest l.sought ≡ g.S.Seek.quest l.fn.sought;
      sound : IsTrue (g.D.Depot.held l.fn.depot).tells → g.S.Seek.sound l.fn.sought files → g.S.Seek.sound l.sought files;
      ready : IsTrue (g.D.Depot.held l.fn.depot).tells → IsReady files (spot l.fn.self) → g.S.Seek.sound l.fn.sought files → IsReady files (spot l.self);
      passed : IsTrue (g.D.Depot.held l.fn.depot).tells → IsReady files (spot l.fn.self) → g.S.Seek.sound l.fn.sought files → Passed (g.S.Seek.quest l.fn.sought) files l.fn.self.folder l.fn.self.after l.self.after;
    }
