use Rattle.reg_claims.proofs.StandingLaws.{made_stands, others_stand}
use Rattle.reg_claims.proofs.laws.making_adds_one_claim.Goals as goal

pub returns : goal.returns
returns c = record { made = made_stands; others = others_stand }
