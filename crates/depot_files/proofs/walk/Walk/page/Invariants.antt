use Rattle.std.proofs.Common.{◌≤◌, length}
use Rattle.std.specs.Option.{option_copied}
use Rattle.depot_api.specs.Pages.{ArePathsAbove}
use Rattle.depot_files.proofs.walk.Walk.page.Given as goal

-- the page so far ascends
abbrev pub invariant-loop : goal.invariant-loop
invariant-loop g l = record {
  most : length l.page.items ≤ l.most;
  order : ArePathsAbove l.under (option_copied l.after) l.page.items;
}
