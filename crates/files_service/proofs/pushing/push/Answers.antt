use Rattle.std.proofs.Common.{refl, ap, ◌∙◌, arith, rules}
use Rattle.reg_entries.specs.Numbers.{manifest_invalid}
use Rattle.reg_model.specs.Changing.{Pushes, refusal_with}
use Rattle.files_service.proofs.OutcomeLaws.{no_reference, is_bad}
use Rattle.files_service.proofs.ServingLaws.{refused}
use Rattle.files_service.proofs.pushing.push.Goals as goal

pub returns-in_default : goal.returns-in_default
returns-in_default g c =
    let args = c.args in
    refused g.D.Depot.held g.D.Depot.faults (Pushes args.name.now args.at.now args.pushed.now) args.depot.now args.depot.now c.refusal_with.result refl (omega arith)
    (no_reference args.name.now args.at.now args.pushed.now _ _ c.refusal_with.result (search rules) (c.refusal_with.ensures ∙ ap (refusal_with manifest_invalid) c.in_ok-word.ensures))

pub returns-in_ok-copy-in-Bad : goal.returns-in_ok-copy-in-Bad
returns-in_ok-copy-in-Bad g c =
    let args = c.args in
    refused g.D.Depot.held g.D.Depot.faults (Pushes args.name.now args.at.now args.pushed.now) args.depot.now args.depot.now c.refusal_with-in-Bad.result refl (omega arith)
    (is_bad args.name.now args.at.now c.in-Some.at args.pushed.now c.in-Bad.word _ _ c.refusal_with-in-Bad.result (search rules) (search rules) (c.refusal_with-in-Bad.ensures ∙ ap (refusal_with manifest_invalid) c.in_ok-copy-in-Bad.ensures))
