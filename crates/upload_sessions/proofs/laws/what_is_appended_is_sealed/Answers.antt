use Rattle.upload_sessions.proofs.SealingLaws.{appended_is_sealed}
use Rattle.upload_sessions.proofs.laws.what_is_appended_is_sealed.Goals as goal

pub returns : goal.returns
returns c = appended_is_sealed
