use Rattle.std.proofs.Common.{List, ℕ, sym, subst}
use Rattle.keeper_api.specs.Tables.{Fits}
use Rattle.reg_tables.proofs.FitLaws.{payload_fits}
use Rattle.reg_tables.proofs.payload.payload_change.Goals as goal

pub returns-clause-fits : goal.returns-clause-fits
returns-clause-fits c =
    let a = c.args in
    (subst (λ (k : List ℕ). Fits k c.new.result) (sym c.in_ok-key.ensures.key) (payload_fits a.name.now a.digest.now c.new.result c.in_ok-key.ensures.name c.in_ok-key.ensures.digest), tt)
