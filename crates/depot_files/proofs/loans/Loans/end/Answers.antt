use Rattle.std.proofs.Common.{false, refl}
use Rattle.depot_api.specs.Changes.{with_loan}
use Rattle.depot_api.proofs.SlotLaws.{same_held}
use Rattle.depot_files.specs.Silence.{untold}
use Rattle.depot_files.proofs.loans.Loans.end.Goals as goal

pub returns : goal.returns
returns c =
    same_held (untold (record { paths = c.remove.new.self })) (with_loan (untold c.args.self.now) c.args.at.now false) refl (λ q. refl) c.remove.ensures.updates.0
