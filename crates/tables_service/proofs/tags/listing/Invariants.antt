use Rattle.std.proofs.Common.{◌≡◌, ◌≤◌, List, length}
use Rattle.std.specs.Prelude.{IfSome, option_copied}
use Rattle.reg_entries.specs.Listing.{AreNextTags}
use Rattle.reg_journal.specs.declared.entry.Entry.{Entry}
use Rattle.reg_journal.specs.Changes.{replay}
use Rattle.reg_journal.specs.Past.{shown}
use Rattle.tables_service.specs.Telling.{TellsJournal}
use Rattle.tables_service.proofs.tags.listing.Given as goal

-- the tags that were found follow each other behind `last`
abbrev pub invariant-loop : goal.invariant-loop
invariant-loop g l =
    record {
      kept : g.K.Keeper.kept l.keeper ≡ g.K.Keeper.kept l.fn.keeper;
      later : g.K.Keeper.faults l.fn.keeper ≤ g.K.Keeper.faults l.keeper;
      room : IfSome l.fn.n (λ n. length l.found.items ≤ n);
      chain : (journal : List Entry) → TellsJournal journal (g.K.Keeper.kept l.fn.keeper) → AreNextTags (shown (replay journal)) l.fn.name (option_copied l.fn.last) l.found.items;
    }
