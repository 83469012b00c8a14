use Rattle.files_service.proofs.ChangeLaws.{MadeSome}
use Rattle.files_service.proofs.change.make_all.Given as goal

-- so many of the first changes were made
abbrev pub invariant-loop-change : goal.invariant-loop-change
invariant-loop-change g l =
    MadeSome g.D.Depot.held g.D.Depot.faults l.changes l.change-index l.fn.depot l.depot
