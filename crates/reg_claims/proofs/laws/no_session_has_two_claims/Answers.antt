use Rattle.reg_claims.proofs.SoundLaws.{two_are_one}
use Rattle.reg_claims.proofs.laws.no_session_has_two_claims.Goals as goal

pub returns : goal.returns
returns c = two_are_one
