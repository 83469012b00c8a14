use Rattle.std.proofs.Common.{◌≡◌, sym, ◌∙◌}
use Rattle.disk_writes.proofs.WriteLaws.{stays_then, shelved_apart}
use Rattle.disk_writes.proofs.writes.append.Goals as goal

pub returns-in_err-stage-clause-others : goal.returns-in_err-stage-clause-others
returns-in_err-stage-clause-others g c = λ q apart. c.grow.ensures.others q (λ same. apart (sym c.in_ok-at.ensures ∙ same))

pub returns-in_default-clause-others : goal.returns-in_default-clause-others
returns-in_default-clause-others g c = λ q apart. c.grow.ensures.others q (λ same. apart (sym c.in_ok-at.ensures ∙ same))

pub returns-clause-others : goal.returns-clause-others
returns-clause-others g c = λ q apart.
    let aside = λ (same : c.in_ok-at.at ≡ q). apart (sym c.in_ok-at.ensures ∙ same) in
    let grown = rw c.in-Some.is at c.in_ok-stage.ensures.grown in
    let between = g.D.Depot.held c.grow.new.depot in
    let now = g.D.Depot.held c.shelve.new.self in
    stays_then q (g.D.Depot.held c.args.depot.now) between now (c.grow.ensures.others q aside) (shelved_apart c.in_ok-at.at q between now (g.D.S.Stage.held c.in-Some.stage) grown.path c.shelve.ensures.changes.made aside)
