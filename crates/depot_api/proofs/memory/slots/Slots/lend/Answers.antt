use Rattle.std.proofs.Common.{sym}
use Rattle.std.specs.BTreeMap as tree
use Rattle.depot_api.specs.Paths.{path_cmp}
use Rattle.depot_api.proofs.SlotLaws.{held_lent}
use Rattle.depot_api.proofs.memory.slots.Slots.lend.Goals as goal

pub returns-in-Some-Whole-clause-lends : goal.returns-in-Some-Whole-clause-lends
returns-in-Some-Whole-clause-lends c = (sym c.if-is_lent.ensures, held_lent (tree.get path_cmp c.args.self.now.slots) (tree.get path_cmp c.insert.new.self) c.args.at.now (rw c.in_ok-copy.ensures at c.in_ok-file.ensures.updates.0))

pub returns-in-Some-Lent-clause-lends : goal.returns-in-Some-Lent-clause-lends
returns-in-Some-Lent-clause-lends c = (sym c.if-is_lent.ensures, held_lent (tree.get path_cmp c.args.self.now.slots) (tree.get path_cmp c.insert.new.self) c.args.at.now (rw c.in_ok-copy.ensures at c.in_ok-file.ensures.updates.0))
