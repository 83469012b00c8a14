use Rattle.std.proofs.Common.{rules, arith}
use Rattle.files_service.proofs.ChangeLaws.{made_more, failed_at}
use Rattle.files_service.proofs.change.make_all.Goals as goal

pub returns-in_err-make : goal.returns-in_err-make
returns-in_err-make g c =
    failed_at g.D.Depot.held g.D.Depot.faults c.args.changes.now c.loop-change.change-index c.change-item.result c.args.depot.now c.loop-change.depot c.make.new.depot c.make.result _ c.from_residual.result (omega arith) c.change-item.is c.loop-change.invariant c.in_err-make.was (search rules) c.make.ensures

pub loop-change-preserved : goal.loop-change-preserved
loop-change-preserved g c =
    made_more g.D.Depot.held g.D.Depot.faults c.args.changes.now c.loop-change.change-index c.change-item.result c.args.depot.now c.loop-change.depot c.make.new.depot c.make.result _ (omega arith) c.change-item.is c.loop-change.invariant c.in_ok-make.was c.make.ensures
