use Rattle.std.proofs.Common.{List, ℕ, ◌++◌, ap, ◌∙◌}
use Rattle.import_phase.specs.Phases.{phase_spelled}
use Rattle.import_phase.proofs.FormLaws.{row_fits}
use Rattle.import_phase.proofs.writing.phase_bytes.Goals as goal

pub returns-clause-fits : goal.returns-clause-fits
returns-clause-fits c =
    let p = c.args.phase.now in
    row_fits p c.from_vec.result (c.from_vec.ensures ∙ c.in_ok-put_phase.ensures.row ∙ ap (λ (t : List ℕ). t ++ phase_spelled p) c.new-row.ensures.items) c.in_ok-put_phase.ensures.kept
