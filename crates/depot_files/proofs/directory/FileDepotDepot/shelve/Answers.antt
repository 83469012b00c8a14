use Rattle.std.proofs.Common.{rules, ap, ◌∙◌}
use Rattle.depot_files.specs.Silence.{untold}
use Rattle.depot_files.proofs.LoanLaws.{shelved_untold}
use Rattle.depot_files.proofs.directory.FileDepotDepot.shelve.Goals as goal

pub returns : goal.returns
returns g c = record {
  changes = record {
    made = ap untold c.count_where.ensures.loans ∙ (rw c.path.ensures at c.end.ensures) ∙ shelved_untold c.args.self.now.loans c.args.stage.path c.args.stage.length;
    cause = search rules;
  };
}
