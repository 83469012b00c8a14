use Rattle.http_wire.specs.BodyAnswers.{state_of}
use Rattle.http_wire.proofs.FillingLaws.{takes_lead, takes_end, takes_too_much}
use Rattle.http_wire.proofs.taking.takings_add_up.Goals as goal

pub returns-clause-goes_on : goal.returns-clause-goes_on
returns-clause-goes_on c = λ most reader moved bytes given rest decoded filling takes more. takes_lead most (state_of reader) bytes given (state_of moved) rest takes decoded filling more

pub returns-clause-ends : goal.returns-clause-ends
returns-clause-ends c = λ most reader moved bytes given rest outcome. takes_end most (state_of reader) bytes given (state_of moved) rest outcome

pub returns-clause-is_long : goal.returns-clause-is_long
returns-clause-is_long c = λ most reader moved bytes given rest. takes_too_much most (state_of reader) bytes given (state_of moved) rest
