use Rattle.reg_names.proofs.TextOrder.{digests-cmp}
use Rattle.reg_names.proofs.digest.digests_are_ordered_as_texts.Goals as goal

pub returns : goal.returns
returns c = digests-cmp
