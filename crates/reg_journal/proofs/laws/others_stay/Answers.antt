use Rattle.reg_journal.proofs.StayLaws.{others_in, others_at, other_tags, same_state}
use Rattle.reg_journal.proofs.laws.others_stay.Goals as goal

pub returns-clause-repositories : goal.returns-clause-repositories
returns-clause-repositories c = others_in

pub returns-clause-digests : goal.returns-clause-digests
returns-clause-digests c = others_at

pub returns-clause-tags : goal.returns-clause-tags
returns-clause-tags c = other_tags

pub returns-clause-state : goal.returns-clause-state
returns-clause-state c = same_state
