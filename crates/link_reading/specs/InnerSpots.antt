-- The proof's own: no public clause cites what stands here.
use Rattle.std.specs.Vec.Iter.{into_iter_items}
use Rattle.link_reading.specs.InnerWalks.{Spot}
use Rattle.link_reading.specs.declared.walk.Walk.{Walk}

-- where a walk stands
abbrev pub spot : Walk → Spot
spot walk = record { folder = walk.folder; after = walk.after; left = into_iter_items walk.left }
