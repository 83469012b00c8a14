use Rattle.std.specs.BTreeMap as tree
use Rattle.depot_api.specs.Paths.{path_cmp}
use Rattle.depot_api.proofs.SlotLaws.{held_put}
use Rattle.depot_api.proofs.memory.slots.Slots.put.Goals as goal

pub returns-clause-put : goal.returns-clause-put
returns-clause-put c = held_put (tree.get path_cmp c.args.self.now.slots) (tree.get path_cmp c.insert.new.self) c.args.at.now c.args.file (rw c.in_ok-copy.ensures at c.in_ok-insert.ensures.updates.0)
