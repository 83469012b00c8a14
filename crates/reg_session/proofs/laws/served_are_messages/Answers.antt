use Rattle.reg_session.proofs.MessageLaws.{read_are_messages}
use Rattle.reg_session.proofs.laws.served_are_messages.Goals as goal

pub returns : goal.returns
returns c = read_are_messages
