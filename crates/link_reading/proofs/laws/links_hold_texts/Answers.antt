use Rattle.link_reading.proofs.MeaningLaws.{links_exactly}
use Rattle.link_reading.proofs.laws.links_hold_texts.Goals as goal

pub returns : goal.returns
returns c = links_exactly
