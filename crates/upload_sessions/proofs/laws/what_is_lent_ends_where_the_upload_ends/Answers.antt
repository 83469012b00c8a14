use Rattle.upload_sessions.proofs.TakingLaws.{lent_end}
use Rattle.upload_sessions.proofs.laws.what_is_lent_ends_where_the_upload_ends.Goals as goal

pub returns : goal.returns
returns c = lent_end
