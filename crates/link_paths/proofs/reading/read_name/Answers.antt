use Rattle.link_paths.proofs.ReadPlaces.{name_of_parts}
use Rattle.std.proofs.Common.{◌∙◌}
use Rattle.link_paths.proofs.reading.read_name.Goals as goal

pub returns : goal.returns
returns c = name_of_parts c.args.components.now c.as_str.result.now c.read.result c.requires (c.as_str.ensures.bytes ∙ c.in_ok-text.ensures) c.read.ensures
