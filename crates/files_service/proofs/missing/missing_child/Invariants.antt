use Rattle.std.proofs.Common.{◌≡◌, drop}
use Rattle.std.specs.Prelude.{IsTrue, find}
use Rattle.reg_names.specs.Cause.{OnlyReads}
use Rattle.link_reading.specs.Meaning.{Means}
use Rattle.reg_model.specs.Changing.{is_absent}
use Rattle.files_service.proofs.missing.missing_child.Given as goal

-- the first digest that is absent is not among those that were passed
abbrev pub invariant-loop-child : goal.invariant-loop-child
invariant-loop-child g l =
    let old = g.D.Depot.held l.fn.depot in
    let test = is_absent (Means old.files) l.name in record {
      reads : OnlyReads g.D.Depot.held g.D.Depot.faults l.fn.depot l.depot ⊥;
      passed : IsTrue old.tells → find test (drop l.child-index l.children) ≡ find test l.children;
    }
