use Rattle.reg_journal.proofs.JournalLaws.{legal_keeps}
use Rattle.reg_journal.proofs.laws.condemned_digests_are_not_held.Goals as goal

pub returns : goal.returns
returns c = λ delay journal digest l s.
    let k = legal_keeps delay journal l in
    (λ name. k.unlinked digest name s, λ name of m e f. k.freely digest name of m s e f)
