use Rattle.std.proofs.Common.{◌≡◌, ◌++◌}
use Rattle.reg_tables.specs.InnerPending.{changes_of}
use Rattle.reg_tables.proofs.pending.Pending.into_changes.Given as goal

abbrev pub invariant-loop-key : goal.invariant-loop-key
invariant-loop-key l = l.changes.items ++ changes_of l.key-iterator ≡ l.fn.self
