use Rattle.reg_model.proofs.AnswerLaws.{answer_alone}
use Rattle.reg_model.proofs.laws.answers_are_one.Goals as goal

pub returns : goal.returns
returns c = answer_alone
