use Rattle.import_phase.proofs.FormLaws.{kept_fits, fitting}
use Rattle.import_phase.proofs.laws.phase_rows_spell_phases.Goals as goal

pub returns-clause-fits : goal.returns-clause-fits
returns-clause-fits c = kept_fits

pub returns-clause-spells : goal.returns-clause-spells
returns-clause-spells c = λ row h. let s = fitting row h in (s.of, s.such, s.same)
