use Rattle.std.proofs.Common.{◌≡◌, drop}
use Rattle.std.specs.Prelude.{IsTrue, find}
use Rattle.reg_names.specs.Cause.{OnlyReads}
use Rattle.link_reading.specs.Meaning.{Means}
use Rattle.reg_model.specs.Changing.{is_missing}
use Rattle.files_service.proofs.missing.missing_named.Given as goal

-- the first digest that is missing is not among those that were passed
abbrev pub invariant-loop-named : goal.invariant-loop-named
invariant-loop-named g l =
    let old = g.D.Depot.held l.fn.depot in
    let test = is_missing (Means old.files) l.name in record {
      reads : OnlyReads g.D.Depot.held g.D.Depot.faults l.fn.depot l.depot ⊥;
      passed : IsTrue old.tells → find test (drop l.named-index l.named) ≡ find test l.named;
    }
