use Rattle.manifest_doc.proofs.OneDocumentLaws.{has_document}
use Rattle.manifest_doc.proofs.laws.bytes_that_pass_are_a_document.Goals as goal

pub returns : goal.returns
returns c = has_document
