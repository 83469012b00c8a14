use Rattle.http_wire.specs.BodyAnswers.{state_of}
use Rattle.http_wire.proofs.FillingLaws.{one_filling}
use Rattle.http_wire.proofs.taking.limits_are_exact.Goals as goal

pub returns : goal.returns
returns c = λ most reader bytes one other end last. one_filling most (state_of reader) bytes one other end last
