use Rattle.std.proofs.Common.{rules, ap, inl, ◌∙◌}
use Rattle.depot_files.specs.Silence.{untold}
use Rattle.depot_files.proofs.LoanLaws.{shelved_untold}
use Rattle.depot_files.proofs.directory.FileDepotDepot.place.Goals as goal

pub returns-in-Err-Fault-clause-changes : goal.returns-in-Err-Fault-clause-changes
returns-in-Err-Fault-clause-changes g c = record {
  made = inl (ap untold c.count_fault-in-Err-Fault.ensures.loans ∙ (rw (c.path-in-Err-Fault.ensures, c.move_to.ensures.loans) at c.end-in-Err-Fault.ensures) ∙ shelved_untold c.args.self.now.loans c.args.stage.path c.args.stage.length);
  cause = search rules;
}
