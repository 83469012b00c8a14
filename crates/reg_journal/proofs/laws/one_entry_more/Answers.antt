use Rattle.std.proofs.Common.{[], ◌∷◌}
use Rattle.reg_journal.specs.Past.{nothing}
use Rattle.reg_journal.proofs.JournalLaws.{replay_append, entries_are, legal_more}
use Rattle.reg_journal.proofs.laws.one_entry_more.Goals as goal

pub returns-clause-replay : goal.returns-clause-replay
returns-clause-replay c = λ journal entry. replay_append nothing journal (entry ∷ [])

pub returns-clause-legal : goal.returns-clause-legal
returns-clause-legal c = legal_more

pub returns-clause-entries : goal.returns-clause-entries
returns-clause-entries c = entries_are
