use Rattle.http_wire.proofs.JoiningLaws.{one_message_more, messages_then}
use Rattle.http_wire.proofs.messages.messages_add_up.Goals as goal

pub returns-clause-more : goal.returns-clause-more
returns-clause-more c = λ limits old mid new messages m. one_message_more limits old messages mid m new

pub returns-clause-ends : goal.returns-clause-ends
returns-clause-ends c = λ limits old mid messages others ending. messages_then limits old messages mid others ending
