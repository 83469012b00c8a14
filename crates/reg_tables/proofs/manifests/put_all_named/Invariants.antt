use Rattle.std.proofs.Common.{◌≡◌, ℕ, List, [], ◌++◌}
use Rattle.reg_names.specs.declared.kind.Kind.{Kind}
use Rattle.reg_names.specs.declared.named.Named.{Named}
use Rattle.reg_journal.specs.Past.{Past}
use Rattle.keeper_api.specs.Changes.{after}
use Rattle.keeper_api.specs.Rows.{Rows}
use Rattle.reg_tables.specs.Derived.{with_past}
use Rattle.reg_tables.specs.InnerSteps.{with_lists}
use Rattle.reg_tables.proofs.manifests.put_all_named.Given as goal

-- those behind the ones that are left have their rows
abbrev pub invariant-loop-named : goal.invariant-loop-named
invariant-loop-named l = (done : List Named) × (l.named ≡ l.named-iterator.iter.rest.now ++ done)
    × ((rows base : Rows) (past : Past) (kind : Kind) (size : ℕ) → after rows l.fn.pending ≡ with_past (with_lists l.name l.manifest kind size [] [] past) base → after rows l.pending ≡ with_past (with_lists l.name l.manifest kind size done [] past) base)
