use Rattle.reg_journal.proofs.JournalLaws.{legal_keeps}
use Rattle.reg_journal.proofs.laws.tags_point_to_manifests.Goals as goal

pub returns : goal.returns
returns c = λ delay journal name tag digest l t. (legal_keeps delay journal l).pointed name tag digest t
