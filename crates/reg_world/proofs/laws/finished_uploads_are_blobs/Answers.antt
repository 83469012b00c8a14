use Rattle.reg_world.proofs.BlobLaws.{blob_there}
use Rattle.reg_world.proofs.laws.finished_uploads_are_blobs.Goals as goal

pub returns : goal.returns
returns c = blob_there
