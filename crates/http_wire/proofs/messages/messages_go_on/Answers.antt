use Rattle.http_wire.proofs.MessageLaws.{list_goes_on}
use Rattle.http_wire.proofs.messages.messages_go_on.Goals as goal

pub returns : goal.returns
returns c = list_goes_on
