use Rattle.std.proofs.Common.{◌≡◌, ◌≤◌}
use Rattle.std.specs.Prelude.{IsTrue}
use Rattle.link_paths.specs.Folders.{tags_folder}
use Rattle.link_reading.specs.InnerPointing.{pointing_quest}
use Rattle.link_reading.specs.InnerSpots.{spot}
use Rattle.link_reading.specs.InnerWalks.{IsReady}
use Rattle.link_reading.proofs.PointingLaws.{HasPointed}
use Rattle.link_reading.proofs.pointing.linked_tags.Given as goal

-- the tags that were found are those that the walk has passed
abbrev pub invariant-loop : goal.invariant-loop
invariant-loop g l =
    let files = (g.D.Depot.held l.fn.depot).files in
    record {
      held : g.D.Depot.held l.depot ≡ g.D.Depot.held l.fn.depot;
      later : g.D.Depot.faults l.fn.depot ≤ g.D.Depot.faults l.depot;
      folder : l.walk.folder ≡ tags_folder l.fn.name;
      quest : pointing_quest l.links.name l.links.digest ≡ pointing_quest l.fn.name l.fn.digest;
      ready : IsTrue (g.D.Depot.held l.fn.depot).tells → IsReady files (spot l.walk);
      points : IsTrue (g.D.Depot.held l.fn.depot).tells → HasPointed files l.fn.name l.fn.digest l.walk.after l.found.items;
    }
