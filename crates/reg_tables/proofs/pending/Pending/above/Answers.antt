use Rattle.std.proofs.Common.{◌∷◌, subst, sym, ap, ◌∙◌}
use Rattle.std.specs.Map.{keys_of}
use Rattle.reg_tables.specs.InnerPending.{changes_of}
use Rattle.reg_tables.proofs.PendingLaws.{Waiting, Ascend, changes_above, ascend_above}
use Rattle.reg_tables.proofs.pending.Pending.above.Goals as goal

pub returns-clause-changes : goal.returns-clause-changes
returns-clause-changes c = rw (← c.self.view_is) (ap changes_of (c.range.ensures.between tt) ∙ changes_above c.args.key.now c.self.inside.rows.entries)

pub returns-clause-ascend : goal.returns-clause-ascend
returns-clause-ascend c =
    subst (λ (ws : Waiting). Ascend (c.args.key.now ∷ keys_of ws)) (sym (c.range.ensures.between tt)) (ascend_above c.args.key.now c.self.inside.rows.entries c.range.ensures.ordered)
