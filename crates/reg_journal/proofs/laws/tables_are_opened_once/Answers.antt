use Rattle.reg_journal.proofs.JournalLaws.{opened_at_most_once}
use Rattle.reg_journal.proofs.laws.tables_are_opened_once.Goals as goal

pub returns : goal.returns
returns c = opened_at_most_once
