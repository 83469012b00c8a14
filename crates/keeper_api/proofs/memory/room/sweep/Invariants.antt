use Rattle.std.proofs.Common.{◌≡◌, drop}
use Rattle.keeper_api.specs.Slots.{slots_in, rows_in}
use Rattle.keeper_api.specs.InnerSlots.{IsHeldBut, keys_of}
use Rattle.keeper_api.proofs.memory.room.sweep.Given as goal

abbrev pub invariant-loop-change : goal.invariant-loop-change
invariant-loop-change l = record {
  rows : rows_in l.map ≡ rows_in l.fn.map;
  held : IsHeldBut (keys_of (drop l.change-index l.changes)) (slots_in l.map);
}
