use Rattle.std.proofs.Common.{false, ap, ◌∙◌}
use Rattle.depot_api.specs.Changes.{with_loan}
use Rattle.depot_files.specs.Silence.{untold}
use Rattle.depot_files.proofs.LoanLaws.{loan_undone}
use Rattle.depot_files.proofs.directory.FileDepot.stage_at.Goals as goal

pub returns-in-Err-clause-without : goal.returns-in-Err-clause-without
returns-in-Err-clause-without g c =
    c.end.ensures
    ∙ ap (λ h. with_loan h c.args.at.now false) c.in_ok-begin.ensures.lent
    ∙ loan_undone (untold c.args.self.now.loans) c.args.at.now c.requires
