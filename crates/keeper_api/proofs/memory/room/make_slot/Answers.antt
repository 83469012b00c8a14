use Rattle.std.proofs.Common.{sym}
use Rattle.keeper_api.specs.Slots.{slots_in}
use Rattle.keeper_api.proofs.SlotLaws.{made_rows, made_held}
use Rattle.keeper_api.proofs.memory.room.make_slot.Goals as goal

pub returns-in_ok-insert-clause-rows : goal.returns-in_ok-insert-clause-rows
returns-in_ok-insert-clause-rows c =
    made_rows (slots_in c.args.map.now) (slots_in c.insert.new.self) c.args.key.now (rw c.in_ok-copy.ensures at c.in_ok-insert.ensures.updates.0) (sym c.if-not-contains_key.ensures)

pub returns-in_ok-insert-clause-held : goal.returns-in_ok-insert-clause-held
returns-in_ok-insert-clause-held c =
    made_held (slots_in c.args.map.now) (slots_in c.insert.new.self) c.args.key.now (rw c.in_ok-copy.ensures at c.in_ok-insert.ensures.updates.0)
