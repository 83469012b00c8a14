use Rattle.std.proofs.Common.{◌≡◌, ap, ◌∙◌}
use Rattle.std.specs.Prelude.{is_some}
use Rattle.link_paths.specs.Places.{data_path, layer_path}
use Rattle.files_service.specs.Changing.{puts_link}
use Rattle.files_service.proofs.FinishingLaws.{ends_failed, told}
use Rattle.files_service.proofs.finishing.finish.Goals as goal

pub returns-in-Err-carry_out-clause-changes : goal.returns-in-Err-carry_out-clause-changes
returns-in-Err-carry_out-clause-changes g c =
    let args = c.args in
    let plan = c.in-Ok.plan in
    let at = c.in-Ok.ensures.data ∙ ap data_path c.digest.ensures.digest in
    let link : plan.link ≡ puts_link (layer_path args.held.name args.sealed.digest) args.sealed.digest =
    c.in-Ok.ensures.link ∙ (λ i. puts_link (layer_path (c.name.ensures i) (c.digest.ensures.digest i)) (c.digest.ensures.digest i)) in
    let call = c.in-Err-carry_out.ensures.changes in
    record {
      made = ends_failed args.claims.now args.held (g.D.S.Stage.held args.sealed.stage) args.sealed.digest plan at link (g.D.Depot.held args.depot.now) (g.D.Depot.held c.carry_out.new.depot) (is_some c.in-Err-carry_out.sealed) c.in-Err-carry_out.trouble call.made;
      cause = record { later = call.cause.later; rose = λ t. call.cause.rose (told (is_some c.in-Err-carry_out.sealed) c.in-Err-carry_out.trouble t) };
    }
