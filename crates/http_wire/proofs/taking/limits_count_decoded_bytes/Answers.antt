use Rattle.std.proofs.Common.{refl}
use Rattle.http_wire.specs.BodyAnswers.{state_of}
use Rattle.http_wire.specs.Bodies.{ends_before}
use Rattle.http_wire.specs.Filling.{within}
use Rattle.http_wire.proofs.FillingLaws.{whole_fits, whole_passes, fills_runs}
use Rattle.http_wire.proofs.taking.limits_count_decoded_bytes.Goals as goal

pub returns-clause-fits : goal.returns-clause-fits
returns-clause-fits c = λ most reader bytes body rest. whole_fits most (state_of reader) bytes body (ends_before rest) rest refl

pub returns-clause-passes : goal.returns-clause-passes
returns-clause-passes c = λ most reader bytes body rest. whole_passes most (state_of reader) bytes body (ends_before rest) rest refl

pub returns-clause-same : goal.returns-clause-same
returns-clause-same c = λ most reader bytes body outcome. fills_runs most (state_of reader) bytes body (within outcome) outcome refl
