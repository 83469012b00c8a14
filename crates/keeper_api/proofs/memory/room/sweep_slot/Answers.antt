use Rattle.std.proofs.Common.{sym}
use Rattle.keeper_api.specs.Slots.{slots_in}
use Rattle.keeper_api.proofs.SlotLaws.{swept_rows, swept_held, kept_held}
use Rattle.keeper_api.proofs.memory.room.sweep_slot.Goals as goal

pub returns-then-is_empty-clause-rows : goal.returns-then-is_empty-clause-rows
returns-then-is_empty-clause-rows c =
    swept_rows (slots_in c.args.map.now) (slots_in c.remove.new.self) c.args.key.now c.remove.ensures.updates.0 (sym c.if-is_empty.ensures)

pub returns-then-is_empty-clause-held : goal.returns-then-is_empty-clause-held
returns-then-is_empty-clause-held c =
    swept_held (slots_in c.args.map.now) (slots_in c.remove.new.self) c.args.key.now c.remove.ensures.updates.0

pub returns-else-is_empty-clause-held : goal.returns-else-is_empty-clause-held
returns-else-is_empty-clause-held c =
    λ keys. kept_held (slots_in c.args.map.now) c.args.key.now keys (sym c.if-is_empty.ensures)
