use Rattle.std.proofs.Common.{◌≡◌, ℕ, List, [], ◌++◌}
use Rattle.reg_names.specs.declared.kind.Kind.{Kind}
use Rattle.reg_names.specs.declared.named.Named.{Named}
use Rattle.reg_journal.specs.Past.{Past}
use Rattle.keeper_api.specs.Changes.{after}
use Rattle.keeper_api.specs.Rows.{Rows}
use Rattle.reg_tables.specs.Derived.{with_past}
use Rattle.reg_tables.specs.InnerSteps.{with_lists}
use Rattle.reg_tables.proofs.manifests.put_children.Given as goal

-- those behind the ones that are left have their rows
abbrev pub invariant-loop-child : goal.invariant-loop-child
invariant-loop-child l = (done : List (List ℕ)) × (l.children ≡ l.child-iterator.iter.rest.now ++ done)
    × ((rows base : Rows) (past : Past) (kind : Kind) (size : ℕ) (named : List Named) → after rows l.fn.pending ≡ with_past (with_lists l.name l.parent kind size named [] past) base → after rows l.pending ≡ with_past (with_lists l.name l.parent kind size named done past) base)
