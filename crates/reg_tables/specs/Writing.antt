-- What a commit of entries does.
use Rattle.std.specs.Prelude.{◌≡◌, ◌+◌, ◌<◌, ◌++◌, ℕ, List, length, IsTrue, ⊤}
use Rattle.std.specs.List.{AllByRecursion}
use Rattle.reg_entries.specs.declared.trouble.Trouble.{Trouble}
use Rattle.reg_entries.specs.declared.trouble.Trouble.TheVariants as trouble
use Rattle.reg_journal.specs.declared.entry.Entry.{Entry}
use Rattle.keeper_api.specs.declared.change.Change.{Change}
use Rattle.keeper_api.specs.Changes.{after}
use Rattle.keeper_api.specs.Rows.{Kept, key_of}
use Rattle.reg_tables.specs.Derived.{rows_of, without_taken, IsDerived, journal_limit}
use Rattle.reg_tables.specs.Items.{item_of, elsewhere}

-- the changes are of tables that no journal derives
abbrev pub LeavesDerived : List Change → Type 0
LeavesDerived changes = AllByRecursion (λ change. item_of (key_of change) ≡ elsewhere) changes

-- where the rows were a journal's, they are those of the longer journal, over the changes that were handed in and
-- without what its entries take away beside their own
abbrev pub IsWritten : Kept → Kept → List Change → List Entry → Type 0
IsWritten old new changes entries =
    IsTrue old.tells → LeavesDerived changes → (journal : List Entry) → IsDerived journal old.rows →
    new.rows ≡ rows_of (journal ++ entries) (without_taken entries (after old.rows changes))

-- the number is that of the last one of the longer journal
abbrev pub IsLastOf : Kept → List Entry → ℕ → Type 0
IsLastOf old entries number =
    IsTrue old.tells → (journal : List Entry) → IsDerived journal old.rows → number ≡ length journal + length entries

-- the longer journal has more entries than a journal may have
abbrev pub IsPastLimit : Kept → List Entry → Type 0
IsPastLimit old entries =
    IsTrue old.tells → (journal : List Entry) → IsDerived journal old.rows → journal_limit < length journal + length entries

-- of the troubles, only these come of a commit of entries
abbrev pub IsOfTables : Trouble → Type 0
IsOfTables trouble.Depot = ⊥
IsOfTables trouble.Keeper = ⊤
IsOfTables trouble.Full = ⊤
IsOfTables trouble.NoMemory = ⊤
