use Rattle.reg_names.proofs.ReferenceTexts.{reference_named-text}
use Rattle.reg_names.proofs.reference.references_read_back.Goals as goal

pub returns : goal.returns
returns c = reference_named-text
