use Rattle.http_wire.specs.BodyAnswers.{state_of}
use Rattle.http_wire.proofs.BodyLaws.{one_run}
use Rattle.http_wire.proofs.reading_body.bodies_are_exact.Goals as goal

pub returns : goal.returns
returns c = λ reader bytes one other end last. one_run (state_of reader) bytes one other end last
