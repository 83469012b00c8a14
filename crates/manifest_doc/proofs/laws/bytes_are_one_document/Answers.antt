use Rattle.manifest_doc.proofs.DocumentLaws.{one_document}
use Rattle.manifest_doc.proofs.laws.bytes_are_one_document.Goals as goal

pub returns : goal.returns
returns c = one_document
