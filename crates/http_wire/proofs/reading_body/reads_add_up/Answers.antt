use Rattle.http_wire.specs.BodyAnswers.{state_of}
use Rattle.http_wire.proofs.MovingLaws.{adds_up}
use Rattle.http_wire.proofs.reading_body.reads_add_up.Goals as goal

pub returns : goal.returns
returns c = λ old new bytes given rest decoded outcome moves run. adds_up (state_of old) (state_of new) bytes given rest moves decoded outcome run
