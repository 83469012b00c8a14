use Rattle.std.proofs.Common.{refl, ap, ◌∙◌}
use Rattle.std.specs.Prelude.{not}
use Rattle.link_reading.specs.Answers.{FindsManifest}
use Rattle.reg_entries.specs.Numbers.{manifest_unknown}
use Rattle.reg_model.specs.Changing.{DropsManifest, DropsStanding}
use Rattle.files_service.proofs.DroppingLaws.{manifest_none, drops_standing}
use Rattle.files_service.proofs.ServingLaws.{lacked, passed_on, found_of}
use Rattle.files_service.proofs.dropping.drop_manifest.Goals as goal

pub returns-then-is_none : goal.returns-then-is_none
returns-then-is_none g c =
    let args = c.args in
    let old = g.D.Depot.held args.depot.now in
    let reads = c.manifest.ensures.reads in
    let found = found_of old (λ files. FindsManifest files args.name.now args.digest.now) c.manifest.result c.in_ok-manifest.field-0 c.in_ok-manifest.was c.manifest.ensures.value in
    lacked g.D.Depot.held g.D.Depot.faults (DropsManifest args.name.now args.digest.now) args.depot.now c.manifest.new.depot c.lacks.new.depot args.name.now manifest_unknown c.lacks.result reads.held_stays reads.cause.later c.lacks.ensures.value c.lacks.ensures.fits c.lacks.ensures.reads
    (manifest_none args.name.now args.digest.now _ _ old.files refl c.in_ok-manifest.field-0 found (c.is_none.ensures ∙ ap not c.if-is_none.true))

pub returns : goal.returns
returns g c =
    let args = c.args in
    let old = g.D.Depot.held args.depot.now in
    let reads = c.manifest.ensures.reads in
    let found = found_of old (λ files. FindsManifest files args.name.now args.digest.now) c.manifest.result c.in_ok-manifest.field-0 c.in_ok-manifest.was c.manifest.ensures.value in
    passed_on g.D.Depot.held g.D.Depot.faults (DropsManifest args.name.now args.digest.now) (λ told facts. DropsStanding told facts.state args.name.now args.digest.now) args.depot.now c.manifest.new.depot c.drop_standing.new.depot c.drop_standing.result reads.held_stays reads.cause.later
    (drops_standing args.name.now args.digest.now _ _ old.files refl c.in_ok-manifest.field-0 found (c.is_none.ensures ∙ ap not c.if-is_none.false)) c.drop_standing.ensures
