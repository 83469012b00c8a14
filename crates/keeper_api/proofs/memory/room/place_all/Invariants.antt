use Rattle.std.proofs.Common.{◌≡◌, ℕ, List}
use Rattle.std.specs.Vec.Iter.{into_iter_items}
use Rattle.keeper_api.specs.Slots.{slots_in, rows_in}
use Rattle.keeper_api.specs.InnerSlots.{IsHeldBut, with_outcomes, AreHeld, AreAmong, HaveSlots}
use Rattle.keeper_api.proofs.memory.room.place_all.Given as goal

abbrev pub invariant-loop-key : goal.invariant-loop-key
invariant-loop-key l = record {
  room : HaveSlots (slots_in l.map) (into_iter_items l.key-iterator);
  rows : with_outcomes (rows_in l.map) (into_iter_items l.key-iterator) ≡ with_outcomes (rows_in l.fn.map) l.fn.outcomes.items;
  held : (keys : List (List ℕ)) → AreAmong keys l.fn.outcomes.items → AreHeld l.fn.outcomes.items → IsHeldBut keys (slots_in l.fn.map)
      → AreAmong keys (into_iter_items l.key-iterator) × AreHeld (into_iter_items l.key-iterator) × IsHeldBut keys (slots_in l.map);
}
