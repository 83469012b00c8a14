use Rattle.http_wire.proofs.MessageLaws.{one_list}
use Rattle.http_wire.proofs.messages.messages_are_one.Goals as goal

pub returns : goal.returns
returns c = one_list
