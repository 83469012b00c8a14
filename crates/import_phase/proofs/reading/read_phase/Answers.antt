use Rattle.import_phase.proofs.FormLaws.{fitting_at}
use Rattle.import_phase.proofs.reading.read_phase.Goals as goal

pub phase_of-requires : goal.phase_of-requires
phase_of-requires g c =
    fitting_at c.in_ok-key.key c.in-Some.row c.as_slice.result.now (rw c.in_ok-key.ensures.ok at c.phase_key.ensures) c.as_slice.ensures (rw c.in-Some.is at c.in_ok-row.ensures.fits)
