use Rattle.std.proofs.Common.{sym}
use Rattle.std.specs.BTreeMap as tree
use Rattle.depot_api.specs.Paths.{path_cmp}
use Rattle.depot_api.proofs.SlotLaws.{held_ended, none_ended}
use Rattle.depot_api.proofs.memory.slots.Slots.end_loan.Goals as goal

pub returns-then-is_lent : goal.returns-then-is_lent
returns-then-is_lent c =
    held_ended (tree.get path_cmp c.args.self.now.slots) (tree.get path_cmp c.remove.new.self) c.args.at.now c.remove.ensures.updates.0 (sym c.if-is_lent.ensures)

pub returns-else-is_lent : goal.returns-else-is_lent
returns-else-is_lent c = none_ended (tree.get path_cmp c.args.self.now.slots) c.args.at.now (sym c.if-is_lent.ensures)
