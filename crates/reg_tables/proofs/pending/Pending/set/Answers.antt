use Rattle.std.proofs.Common.{subst, sym}
use Rattle.keeper_api.specs.Changes.{ArePutsFit}
use Rattle.reg_tables.specs.InnerPending.{changes_of}
use Rattle.reg_tables.proofs.PendingLaws.{Waiting, fit_set, set_waiting}
use Rattle.reg_tables.proofs.pending.Pending.set.Goals as goal

pub invariant_of-self-2 : goal.invariant_of-self-2
invariant_of-self-2 c = record {
  ascend = c.insert.ensures.ordered;
  fit = subst (λ (ws : Waiting). ArePutsFit (changes_of ws)) (sym c.in_ok-insert.ensures.entries) (fit_set c.args.key c.args.row c.self.inside.rows.entries c.requires c.self.invariant.fit);
}

pub returns : goal.returns
returns c rows = rw (← c.self.view_is) (set_waiting rows c.self.inside.rows.entries c.insert.new.self.entries c.args.key c.args.row c.insert.ensures.was_ordered c.insert.ensures.ordered c.in_ok-insert.ensures.updates.0)
