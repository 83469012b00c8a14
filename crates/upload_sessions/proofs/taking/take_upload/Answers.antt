use Rattle.std.proofs.Common.{rules, Ok}
use Rattle.upload_sessions.proofs.TakingLaws.{finds_free}
use Rattle.upload_sessions.proofs.taking.take_upload.Goals as goal

pub returns-in_default-clause-free : goal.returns-in_default-clause-free
returns-in_default-clause-free g c =
    finds_free (g.D.Depot.held c.args.depot.now) c.args.claims.now c.args.name.now c.args.id.now c.args.start (c.in-Ok.id, c.in-Ok.end) c.take_out.result
    (record { met = Ok (c.in-Ok.id, c.in-Ok.end); meets = search rules; is = search rules })
