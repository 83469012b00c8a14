use Rattle.link_paths.proofs.ReadPlaces.{by_path}
use Rattle.link_paths.proofs.reading.read_path.Goals as goal

pub returns : goal.returns
returns c = by_path c.args.path.now c.read_parts.result (rw c.parts.ensures.parts at c.read_parts.ensures)
