use Rattle.reg_journal.proofs.NameLaws.{kept_by_names}
use Rattle.reg_journal.proofs.laws.all_is_kept_by_names.Goals as goal

pub returns : goal.returns
returns c = kept_by_names
