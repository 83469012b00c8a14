use Rattle.manifest_doc.proofs.DocumentLaws.{passes}
use Rattle.manifest_doc.proofs.laws.documents_pass_the_tests.Goals as goal

pub returns : goal.returns
returns c = passes
