use Rattle.std.proofs.Common.{List, ℕ, Option, subst, sym, ap, ◌∙◌}
use Rattle.std.specs.Prelude.{IfSome}
use Rattle.std.specs.Option.{unwrap_or}
use Rattle.keeper_api.specs.Tables.{Fits}
use Rattle.reg_tables.proofs.PendingLaws.{after_waiting, fit_found}
use Rattle.reg_tables.proofs.pending.Pending.at.Goals as goal

pub returns-clause-row : goal.returns-clause-row
returns-clause-row c rows =
    let key = c.args.key.now in
    rw (← c.self.view_is) (after_waiting rows c.self.inside.rows.entries c.self.invariant.ascend key ∙ ap (λ found. unwrap_or found (rows key)) (sym c.get.ensures.value))

pub returns-clause-fits : goal.returns-clause-fits
returns-clause-fits c =
    subst (λ (found : Option (Option (List ℕ))). IfSome found (λ row. IfSome row (Fits c.args.key.now))) (sym c.get.ensures.value) (fit_found c.args.key.now c.self.inside.rows.entries c.self.invariant.fit)
