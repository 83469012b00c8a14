use Rattle.std.proofs.Common.{◌≡◌}
use Rattle.std.specs.Vec.Iter.{into_iter_items}
use Rattle.keeper_api.specs.Changes.{after, ArePutsFit}
use Rattle.keeper_api.specs.Rows.{Rows}
use Rattle.reg_tables.proofs.pending.Pending.of.Given as goal

abbrev pub invariant-loop-change : goal.invariant-loop-change
invariant-loop-change l = record {
  rows : (rows : Rows) → after (after rows l.pending) (into_iter_items l.change-iterator) ≡ after rows l.fn.changes.items;
  fit : ArePutsFit (into_iter_items l.change-iterator);
}
