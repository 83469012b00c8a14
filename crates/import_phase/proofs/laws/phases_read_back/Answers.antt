use Rattle.import_phase.proofs.ReadLaws.{spelled_alike, one_phase}
use Rattle.import_phase.proofs.laws.phases_read_back.Goals as goal

pub returns-clause-apart : goal.returns-clause-apart
returns-clause-apart c = spelled_alike

pub returns-clause-alone : goal.returns-clause-alone
returns-clause-alone c = one_phase
