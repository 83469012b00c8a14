use Rattle.std.proofs.Common.{ap, ◌∙◌}
use Rattle.reg_claims.specs.Claims.{claim_of, without}
use Rattle.upload_sessions.proofs.TakingLaws.{drawn_again, drawn_in_vain}
use Rattle.upload_sessions.proofs.taking.take_out.Goals as goal

pub returns-clause-claims : goal.returns-clause-claims
returns-clause-claims g c =
    let before = c.args.claims.now in
    let held = c.in-Ok.held in
    let claimed = c.in-Ok.ensures.holds in
    drawn_in_vain g.row.D-S.Denot c.args.who before c.end_hold.new.self c.depot_trouble.result c.depot_trouble.ensures.of_depot
    (c.end_hold.ensures ∙ ap (without (claim_of held)) claimed.3 ∙ drawn_again before c.args.who c.args.name.now c.args.id.now held c.in-Ok.ensures.sound claimed.2)
