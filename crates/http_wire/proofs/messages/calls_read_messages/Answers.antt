use Rattle.http_wire.specs.BodyAnswers.{state_of}
use Rattle.http_wire.proofs.JoiningLaws.{decoded_message, staged_message}
use Rattle.http_wire.proofs.messages.calls_read_messages.Goals as goal

pub returns-clause-decoded : goal.returns-clause-decoded
returns-clause-decoded c = λ head reader last old mid new body tells is. decoded_message head (state_of reader) (state_of last) old mid new tells is body

pub returns-clause-staged : goal.returns-clause-staged
returns-clause-staged c = λ head reader last old mid new most n before now tells is. staged_message head (state_of reader) (state_of last) old mid new tells is most n before now
