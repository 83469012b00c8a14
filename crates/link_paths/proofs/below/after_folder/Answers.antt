use Rattle.link_paths.proofs.LinksBelow.{after_folder}
use Rattle.link_paths.proofs.below.after_folder.Goals as goal

pub returns : goal.returns
returns c = rw (← c.parts.ensures.parts, ← c.parts-2.ensures.parts) (after_folder (λ r. r.now) _ _ c.strip_prefix.result c.strip_prefix.ensures.cases)
