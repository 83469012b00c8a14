use Rattle.upload_sessions.proofs.MeetingLaws.{met_is_there}
use Rattle.upload_sessions.proofs.laws.what_is_met_is_what_is_there.Goals as goal

pub returns : goal.returns
returns c = met_is_there
