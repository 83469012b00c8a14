use Rattle.http_wire.specs.BodyAnswers.{state_of}
use Rattle.http_wire.proofs.JoiningLaws.{head_end, decoded_end, staged_end}
use Rattle.http_wire.proofs.messages.calls_end_messages.Goals as goal

pub returns-clause-heads : goal.returns-clause-heads
returns-clause-heads c = head_end

pub returns-clause-decoded : goal.returns-clause-decoded
returns-clause-decoded c = λ limits head reader last old mid new body step ending tells is none.
    decoded_end head (state_of reader) (state_of last) old mid new tells is limits body step ending none

pub returns-clause-staged : goal.returns-clause-staged
returns-clause-staged c = λ limits head reader last old mid new most answer before now ending tells is fits limit.
    staged_end head (state_of reader) (state_of last) old mid new tells is limits most answer before now ending fits limit
