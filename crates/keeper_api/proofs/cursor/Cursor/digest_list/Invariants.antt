use Rattle.std.proofs.Common.{◌≡◌, ◌-◌}
use Rattle.keeper_api.specs.InnerEntries.{items_passed, list_passed}
use Rattle.keeper_api.proofs.cursor.Cursor.digest_list.Given as goal

abbrev pub invariant-loop : goal.invariant-loop
invariant-loop l = items_passed l.free l.last (l.count - l.counter) l.self ≡ list_passed l.free l.fn.self
