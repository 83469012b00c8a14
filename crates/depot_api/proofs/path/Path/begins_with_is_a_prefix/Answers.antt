use Rattle.depot_api.proofs.OrderLaws.{prefix_from_begins_with, begins_with_from_prefix}
use Rattle.depot_api.proofs.path.Path.begins_with_is_a_prefix.Goals as goal

pub returns : goal.returns
returns c = λ under p. (prefix_from_begins_with under p, begins_with_from_prefix under p)
