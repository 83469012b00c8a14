use Rattle.std.proofs.Common.{◌≡◌, ℕ, List, drop}
use Rattle.keeper_api.specs.Slots.{Slotted, slots_in, rows_in}
use Rattle.keeper_api.specs.InnerSlots.{IsHeldBut, keys_of, HasSlot, HaveSlots, outcomes_of}
use Rattle.keeper_api.proofs.memory.room.make_room.Given as goal

-- the rows are as before; and where the changes that are left have slots, and no slot goes, all have
abbrev pub invariant-loop-change : goal.invariant-loop-change
invariant-loop-change l = record {
  rows : rows_in l.map ≡ rows_in l.fn.map;
  held : IsHeldBut (keys_of l.changes) (slots_in l.map);
  room : (slots : Slotted) → ((q : List ℕ) → HasSlot (slots_in l.map) q → HasSlot slots q) → HaveSlots slots (outcomes_of (drop l.change-index l.changes)) → HaveSlots slots (outcomes_of l.changes);
}
