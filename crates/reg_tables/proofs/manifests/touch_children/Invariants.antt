use Rattle.std.proofs.Common.{take}
use Rattle.std.specs.Prelude.{IsTrue}
use Rattle.reg_names.specs.Cause.{OnlyReads}
use Rattle.reg_tables.specs.InnerPending.{Works}
use Rattle.reg_tables.specs.InnerSteps.{touched_manifests}
use Rattle.reg_tables.proofs.manifests.touch_children.Given as goal

-- those so far are touched
abbrev pub invariant-loop-child : goal.invariant-loop-child
invariant-loop-child g l = record {
  reads : OnlyReads g.K.Keeper.kept g.K.Keeper.faults l.fn.keeper l.keeper ⊥;
  step : IsTrue (g.K.Keeper.kept l.fn.keeper).tells → Works (g.K.Keeper.kept l.fn.keeper).rows l.fn.pending l.pending (touched_manifests l.name (take l.child-index l.children) l.now) (λ rows. rows);
}
