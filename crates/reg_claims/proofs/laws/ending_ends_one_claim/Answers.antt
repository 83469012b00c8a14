use Rattle.reg_claims.proofs.StandingLaws.{ended_is_gone, others_are_left}
use Rattle.reg_claims.proofs.laws.ending_ends_one_claim.Goals as goal

pub returns : goal.returns
returns c = record { ended = ended_is_gone; others = λ claims claim other differ. others_are_left claim other differ claims.standing }
