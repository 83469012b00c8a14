use Rattle.std.proofs.Common.{◌≡◌, ◌+◌, List, ◌++◌, length, take}
use Rattle.std.specs.Prelude.{IsTrue}
use Rattle.reg_names.specs.Cause.{OnlyReads}
use Rattle.reg_journal.specs.declared.entry.Entry.{Entry}
use Rattle.keeper_api.specs.Changes.{after}
use Rattle.keeper_api.specs.Rows.{Rows}
use Rattle.reg_tables.specs.Derived.{rows_of, without_taken}
use Rattle.reg_tables.proofs.writing.derive.Given as goal

-- those so far are in the journal
abbrev pub invariant-loop-entry : goal.invariant-loop-entry
invariant-loop-entry g l = record {
  reads : OnlyReads g.K.Keeper.kept g.K.Keeper.faults l.fn.keeper l.keeper ⊥;
  number : l.number ≡ l.last + l.entry-index;
  rows : IsTrue (g.K.Keeper.kept l.fn.keeper).tells → (journal : List Entry) (others : Rows) → l.last ≡ length journal → after (g.K.Keeper.kept l.fn.keeper).rows l.fn.changes.items ≡ rows_of journal others
      → after (g.K.Keeper.kept l.fn.keeper).rows l.pending ≡ rows_of (journal ++ take l.entry-index l.entries) (without_taken (take l.entry-index l.entries) others);
}
