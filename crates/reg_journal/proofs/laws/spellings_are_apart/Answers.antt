use Rattle.reg_journal.proofs.EntryLaws.{spelled_alike}
use Rattle.reg_journal.proofs.laws.spellings_are_apart.Goals as goal

pub returns : goal.returns
returns c = spelled_alike
