use Rattle.std.proofs.Common.{sym}
use Rattle.std.specs.BTreeMap as tree
use Rattle.depot_api.specs.Paths.{path_cmp}
use Rattle.depot_api.proofs.SlotLaws.{held_removed, none_removed}
use Rattle.depot_api.proofs.memory.slots.Slots.remove.Goals as goal

pub returns-then-not-is_lent : goal.returns-then-not-is_lent
returns-then-not-is_lent c =
    held_removed (tree.get path_cmp c.args.self.now.slots) (tree.get path_cmp c.remove.new.self) c.args.at.now c.remove.ensures.updates.0 (sym c.if-not-is_lent.ensures)

pub returns-else-not-is_lent : goal.returns-else-not-is_lent
returns-else-not-is_lent c = none_removed (tree.get path_cmp c.args.self.now.slots) c.args.at.now (sym c.if-not-is_lent.ensures)
