use Rattle.std.proofs.Common.{sym}
use Rattle.std.specs.BTreeMap as tree
use Rattle.depot_api.specs.Paths.{path_cmp}
use Rattle.depot_api.proofs.SlotLaws.{held_back}
use Rattle.depot_api.proofs.memory.slots.Slots.shelve.Goals as goal

pub returns-in-Ok : goal.returns-in-Ok
returns-in-Ok c =
    held_back (tree.get path_cmp c.args.self.now.slots) (tree.get path_cmp c.insert.new.self) c.args.at c.args.bytes.items (rw c.of_vec.ensures at c.in-Ok.ensures.updates.0) (sym c.if-is_lent.ensures)
