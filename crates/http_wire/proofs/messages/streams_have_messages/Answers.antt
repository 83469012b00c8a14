use Rattle.http_wire.proofs.EndingLaws.{has_messages}
use Rattle.http_wire.proofs.messages.streams_have_messages.Goals as goal

pub returns : goal.returns
returns c = has_messages
