use Rattle.std.proofs.Common.{refl, arith}
use Rattle.reg_entries.specs.Numbers.{manifest_unknown}
use Rattle.reg_model.specs.Changing.{Drops}
use Rattle.files_service.proofs.DroppingLaws.{drops_nothing}
use Rattle.files_service.proofs.ServingLaws.{lacked}
use Rattle.files_service.proofs.dropping.drop_at.Goals as goal

pub returns-in-None : goal.returns-in-None
returns-in-None g c =
    let args = c.args in
    lacked g.D.Depot.held g.D.Depot.faults (Drops args.name.now args.at.now) args.depot.now args.depot.now c.lacks.new.depot args.name.now manifest_unknown c.lacks.result refl (omega arith) c.lacks.ensures.value c.lacks.ensures.fits c.lacks.ensures.reads
    (λ outcome lacks. drops_nothing args.name.now args.at.now _ _ outcome c.in-None.is lacks)
