use Rattle.manifest_doc.proofs.StoredLaws.{stored_computed}
use Rattle.manifest_doc.proofs.laws.stored_manifests_are_computed.Goals as goal

pub returns : goal.returns
returns c = stored_computed
