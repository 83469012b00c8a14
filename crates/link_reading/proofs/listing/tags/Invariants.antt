use Rattle.std.proofs.Common.{◌≡◌, ◌≤◌, length}
use Rattle.std.specs.Prelude.{IsTrue, IfSome, option_copied}
use Rattle.std.specs.BTreeMap as tree
use Rattle.std.specs.Ordering.{nat_cmp}
use Rattle.std.specs.Cmp.Lexicographic.{slice_cmp}
use Rattle.link_paths.specs.Folders.{tags_folder}
use Rattle.link_reading.specs.InnerLinks.{tag_quest, AreNoted}
use Rattle.link_reading.specs.InnerSpots.{spot}
use Rattle.link_reading.specs.InnerWalks.{IsReady}
use Rattle.link_reading.proofs.ListingLaws.{HasListed}
use Rattle.link_reading.proofs.listing.tags.Given as goal

-- the tags that were found are the first behind `last`, and what was noted of digests is so
abbrev pub invariant-loop : goal.invariant-loop
invariant-loop g l =
    let files = (g.D.Depot.held l.fn.depot).files in
    let last = option_copied l.fn.last in
    record {
      held : g.D.Depot.held l.depot ≡ g.D.Depot.held l.fn.depot;
      later : g.D.Depot.faults l.fn.depot ≤ g.D.Depot.faults l.depot;
      folder : l.walk.folder ≡ tags_folder l.fn.name;
      quest : tag_quest l.links.name l.links.last ≡ tag_quest l.fn.name last;
      room : IfSome l.fn.n (λ n. length l.found.items ≤ n);
      ready : IsTrue (g.D.Depot.held l.fn.depot).tells → IsReady files (spot l.walk);
      sound : IsTrue (g.D.Depot.held l.fn.depot).tells → AreNoted files l.links.name (tree.get (slice_cmp nat_cmp) l.links.noted);
      lists : IsTrue (g.D.Depot.held l.fn.depot).tells → HasListed files l.fn.name last l.walk.after l.found.items;
    }
