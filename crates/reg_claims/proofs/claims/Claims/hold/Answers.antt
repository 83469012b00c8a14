use Rattle.std.proofs.Common.{◌≡◌, false, sym, ap, ◌∙◌, arith}
use Rattle.std.proofs.lemmas.Bool.Decides.{nat_tests}
use Rattle.reg_claims.specs.Claims.{ClaimList, is_held}
use Rattle.reg_claims.specs.Holding.{is_full}
use Rattle.reg_claims.proofs.SoundLaws.{with_sound}
use Rattle.reg_claims.proofs.claims.Claims.hold.Goals as goal

pub invariant_of-self-2 : goal.invariant_of-self-2
invariant_of-self-2 c =
    let claims : ClaimList = record { standing = c.self.inside.standing.items; next = c.self.inside.next } in
    let room : is_full claims ≡ false = grind (arith, nat_tests) in
    let free : is_held c.args.name.now c.args.id.now claims ≡ false = ap (is_held c.args.name.now c.args.id.now) c.self.view_is ∙ sym c.session_held.ensures ∙ c.if-session_held.false in
    rw (c.in_ok-push.ensures.items, c.in_ok-kept.ensures) (with_sound claims c.args.who c.args.name.now c.args.id.now c.self.invariant room free)
