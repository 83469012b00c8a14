use Rattle.reg_claims.proofs.SoundLaws.{made_and_ended}
use Rattle.reg_claims.proofs.laws.what_is_made_and_ended_leaves_a_number.Goals as goal

pub returns : goal.returns
returns c = λ claims who name id sound. made_and_ended claims who name id sound
