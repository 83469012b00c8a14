use Rattle.http_wire.proofs.VerdictLaws.{apart}
use Rattle.http_wire.proofs.reading.heads_are_exact.Goals as goal

pub returns : goal.returns
returns c = apart
