use Rattle.std.proofs.Common.{◌≡◌, ◌++◌, ◌-◌, ◌≤◌, length, take}
use Rattle.std.specs.List.{take_while}
use Rattle.std.specs.Map.{keys_of}
use Rattle.depot_api.specs.InnerRanges.{wholes}
use Rattle.depot_api.specs.Paths.{begins_with}
use Rattle.depot_api.proofs.memory.slots.first_paths.Given as goal

-- the paths so far, with those that the rest of the range adds, are all of them
abbrev pub invariant-loop-path : goal.invariant-loop-path
invariant-loop-path l = record {
  within : length l.paths.items ≤ l.fn.most;
  all : l.paths.items ++ take (l.fn.most - length l.paths.items) (take_while (begins_with l.fn.under) (keys_of (wholes l.path-iterator))) ≡ take l.fn.most (take_while (begins_with l.fn.under) (keys_of (wholes l.fn.range)));
}
