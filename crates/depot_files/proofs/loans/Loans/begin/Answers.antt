use Rattle.std.proofs.Common.{true, refl}
use Rattle.depot_api.specs.Changes.{with_loan}
use Rattle.depot_api.proofs.SlotLaws.{same_held}
use Rattle.depot_files.specs.Silence.{untold}
use Rattle.depot_files.proofs.loans.Loans.begin.Goals as goal

pub returns-clause-lent : goal.returns-clause-lent
returns-clause-lent c =
    same_held (untold (record { paths = c.insert.new.self })) (with_loan (untold c.args.self.now) c.args.at.now true) refl (λ q. refl) (rw c.in_ok-copy.ensures at c.in_ok-insert.ensures.updates.0)
