use Rattle.std.proofs.Common.{◌≡◌, ◌++◌, drop}
use Rattle.keeper_api.specs.Changes.{ArePutsFit}
use Rattle.keeper_api.specs.InnerSlots.{AreHeld, outcomes_of}
use Rattle.keeper_api.proofs.memory.room.outcomes.Given as goal

abbrev pub invariant-loop-change : goal.invariant-loop-change
invariant-loop-change l = record {
  all : l.outcomes.items ++ outcomes_of (drop l.change-index l.changes) ≡ outcomes_of l.changes;
  fit : AreHeld l.outcomes.items;
  left : ArePutsFit (drop l.change-index l.changes);
}
