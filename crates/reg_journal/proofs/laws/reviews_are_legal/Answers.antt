use Rattle.reg_journal.specs.Legal.{Collectable, made_at}
use Rattle.reg_journal.proofs.JournalLaws.{legal_more}
use Rattle.reg_journal.proofs.laws.reviews_are_legal.Goals as goal

pub returns : goal.returns
returns c = λ delay now journal what l may. (legal_more delay journal (made_at now what)).1 (l, may.legal)
