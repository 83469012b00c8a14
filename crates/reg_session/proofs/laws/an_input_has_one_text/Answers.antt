use Rattle.reg_session.proofs.TextLaws.{one_text}
use Rattle.reg_session.proofs.laws.an_input_has_one_text.Goals as goal

pub returns : goal.returns
returns g c = one_text
