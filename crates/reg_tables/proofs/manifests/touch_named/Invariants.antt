use Rattle.std.proofs.Common.{take}
use Rattle.std.specs.Prelude.{IsTrue}
use Rattle.reg_names.specs.Cause.{OnlyReads}
use Rattle.reg_tables.specs.InnerPending.{Works}
use Rattle.reg_tables.specs.InnerSteps.{touched_blobs}
use Rattle.reg_tables.proofs.manifests.touch_named.Given as goal

-- those so far are touched
abbrev pub invariant-loop-digest : goal.invariant-loop-digest
invariant-loop-digest g l = record {
  reads : OnlyReads g.K.Keeper.kept g.K.Keeper.faults l.fn.keeper l.keeper ⊥;
  step : IsTrue (g.K.Keeper.kept l.fn.keeper).tells → Works (g.K.Keeper.kept l.fn.keeper).rows l.fn.pending l.pending (touched_blobs (take l.digest-index l.named) l.now) (λ rows. rows);
}
