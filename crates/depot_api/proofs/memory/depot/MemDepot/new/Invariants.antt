use Rattle.std.proofs.Common.{◌≡◌}
use Rattle.std.specs.Vec.Iter.{into_iter_items}
use Rattle.depot_api.specs.Memory.{files_of, with_all, no_loans}
use Rattle.depot_api.specs.Slots.{slots_held}
use Rattle.depot_api.proofs.memory.depot.MemDepot.new.Given as goal

-- the files so far, with those that are left put over them, are all of them, and nothing is lent
abbrev pub invariant-loop-path : goal.invariant-loop-path
invariant-loop-path l = record {
  files : with_all (slots_held l.slots).files (into_iter_items l.path-iterator) ≡ files_of l.fn.files.items;
  lent : (slots_held l.slots).lent ≡ no_loans;
}
