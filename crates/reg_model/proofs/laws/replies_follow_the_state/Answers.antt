use Rattle.reg_model.proofs.AnswerLaws.{replies_alike}
use Rattle.reg_model.proofs.laws.replies_follow_the_state.Goals as goal

pub returns : goal.returns
returns c = replies_alike
