use Rattle.link_paths.proofs.PathOrder.{in_order, tags_in_order, revisions_in_order, layers_in_order}
use Rattle.link_paths.proofs.laws.places_are_in_order.Goals as goal

pub returns-clause-parts : goal.returns-clause-parts
returns-clause-parts c = in_order

pub returns-clause-tags : goal.returns-clause-tags
returns-clause-tags c = tags_in_order

pub returns-clause-revisions : goal.returns-clause-revisions
returns-clause-revisions c = revisions_in_order

pub returns-clause-layers : goal.returns-clause-layers
returns-clause-layers c = layers_in_order
