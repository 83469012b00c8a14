use Rattle.std.proofs.Common.{◌∙◌}
use Rattle.link_reading.specs.InnerSpots.{spot}
use Rattle.link_reading.proofs.LinkLaws.{least_of}
use Rattle.link_reading.proofs.links_below.first_linked.Goals as goal

pub returns-clause-value : goal.returns-clause-value
returns-clause-value g c = λ told.
    least_of (g.D.Depot.held c.args.depot.now).files c.args.name.now _ c.args.wanted (spot c.below-walk.result) (spot c.first.new.self) c.first.result
    c.in_ok-copy-2.ensures (c.below-walk.ensures.folder ∙ c.in_ok-copy.ensures ∙ c.in_ok-folder.ensures) c.below-walk.ensures.after c.below-walk.ensures.left (c.first.ensures.found told)
