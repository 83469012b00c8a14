use Rattle.reg_plain.proofs.AnswerLaws.{replied, told}
use Rattle.reg_plain.proofs.laws.answers_tell_replies.Goals as goal

pub returns-clause-told : goal.returns-clause-told
returns-clause-told c = told

pub returns-clause-replied : goal.returns-clause-replied
returns-clause-replied c = replied
