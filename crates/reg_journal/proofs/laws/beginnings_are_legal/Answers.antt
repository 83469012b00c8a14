use Rattle.reg_journal.specs.Past.{nothing}
use Rattle.reg_journal.proofs.JournalLaws.{legal_front}
use Rattle.reg_journal.proofs.laws.beginnings_are_legal.Goals as goal

pub returns : goal.returns
returns c = λ delay journal more l. legal_front delay nothing journal more l
