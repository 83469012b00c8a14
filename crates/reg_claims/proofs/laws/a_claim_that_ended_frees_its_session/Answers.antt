use Rattle.reg_claims.proofs.SoundLaws.{ended_is_free}
use Rattle.reg_claims.proofs.laws.a_claim_that_ended_frees_its_session.Goals as goal

pub returns : goal.returns
returns c = ended_is_free
