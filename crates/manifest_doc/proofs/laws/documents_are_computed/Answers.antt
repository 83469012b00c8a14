use Rattle.manifest_doc.proofs.OneDocumentLaws.{computed}
use Rattle.manifest_doc.proofs.laws.documents_are_computed.Goals as goal

pub returns : goal.returns
returns c = computed
