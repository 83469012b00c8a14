use Rattle.reg_claims.specs.Claims.{ClaimList, claim_of}
use Rattle.reg_claims.proofs.SoundLaws.{without_sound}
use Rattle.reg_claims.proofs.claims.Claims.end_hold.Goals as goal

pub invariant_of-self : goal.invariant_of-self
invariant_of-self c =
    let claims : ClaimList = record { standing = c.self.inside.standing.items; next = c.self.inside.next } in
    rw c.take_out.ensures (without_sound claims (claim_of c.args.held) c.self.invariant)
