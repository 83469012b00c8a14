use Rattle.http_wire.proofs.MessageLaws.{nothing_behind}
use Rattle.http_wire.proofs.messages.spellings_are_apart.Goals as goal

pub returns : goal.returns
returns c = nothing_behind
