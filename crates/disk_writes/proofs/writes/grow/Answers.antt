use Rattle.std.proofs.Common.{◌∙◌}
use Rattle.disk_writes.proofs.WriteLaws.{stays_then, lent_apart, shelved_apart}
use Rattle.disk_writes.proofs.writes.grow.Goals as goal

pub returns-in-Ok-clause-others : goal.returns-in-Ok-clause-others
returns-in-Ok-clause-others g c = λ q apart.
    let lent = rw c.in-Some.is at c.in_ok-stage.ensures.changes in
    lent_apart c.args.at.now q (g.D.Depot.held c.args.depot.now) (g.D.Depot.held c.stage.new.self) lent.made.1 apart

pub returns-in-Err-clause-others : goal.returns-in-Err-clause-others
returns-in-Err-clause-others g c = λ q apart.
    let lent = rw c.in-Some.is at c.in_ok-stage.ensures.changes in
    let staged = rw c.in-Some.is at c.in_ok-stage.ensures.stage in
    let before = g.D.Depot.held c.args.depot.now in
    let between = g.D.Depot.held c.stage.new.self in
    stays_then q before between (g.D.Depot.held c.shelve.new.self) (lent_apart c.args.at.now q before between lent.made.1 apart) (shelved_apart c.args.at.now q between (g.D.Depot.held c.shelve.new.self) (g.D.S.Stage.held c.append_times.new.stage) (c.append_times.ensures.path ∙ staged.path) c.shelve.ensures.changes.made apart)
