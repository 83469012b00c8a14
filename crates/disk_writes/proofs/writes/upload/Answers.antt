use Rattle.std.proofs.Common.{◌≡◌, sym, ap, ◌∙◌}
use Rattle.disk_writes.proofs.WriteLaws.{stays_then, shelved_apart, places_apart}
use Rattle.disk_writes.proofs.writes.upload.Goals as goal

pub returns-in_err-stage-clause-others : goal.returns-in_err-stage-clause-others
returns-in_err-stage-clause-others g c = λ q apart apart_to. c.grow.ensures.others q (λ same. apart (sym c.in_ok-at.ensures ∙ same))

pub returns-in_default-clause-others : goal.returns-in_default-clause-others
returns-in_default-clause-others g c = λ q apart apart_to. c.grow.ensures.others q (λ same. apart (sym c.in_ok-at.ensures ∙ same))

pub returns-in-Ok-clause-others : goal.returns-in-Ok-clause-others
returns-in-Ok-clause-others g c = λ q apart apart_to.
    let aside = λ (same : c.in_ok-at.at ≡ q). apart (sym c.in_ok-at.ensures ∙ same) in
    let grown = rw c.in-Some.is at c.in_ok-stage.ensures.grown in
    let between = g.D.Depot.held c.grow.new.depot in
    let now = g.D.Depot.held c.place.new.self in
    stays_then q (g.D.Depot.held c.args.depot.now) between now (c.grow.ensures.others q aside) (places_apart c.in_ok-at.at c.in_ok-to.to q between now (g.D.S.Stage.held c.in-Some.stage) c.place.result grown.path c.place.ensures.changes.made aside (λ same. apart_to (sym c.in_ok-to.ensures ∙ same)))

pub returns-in-Err-Failed-clause-others : goal.returns-in-Err-Failed-clause-others
returns-in-Err-Failed-clause-others g c = λ q apart apart_to.
    let aside = λ (same : c.in_ok-at.at ≡ q). apart (sym c.in_ok-at.ensures ∙ same) in
    let grown = rw c.in-Some.is at c.in_ok-stage.ensures.grown in
    let between = g.D.Depot.held c.grow.new.depot in
    let now = g.D.Depot.held c.place.new.self in
    stays_then q (g.D.Depot.held c.args.depot.now) between now (c.grow.ensures.others q aside) (places_apart c.in_ok-at.at c.in_ok-to.to q between now (g.D.S.Stage.held c.in-Some.stage) c.place.result grown.path c.place.ensures.changes.made aside (λ same. apart_to (sym c.in_ok-to.ensures ∙ same)))

pub returns-clause-others : goal.returns-clause-others
returns-clause-others g c = λ q apart apart_to.
    let aside = λ (same : c.in_ok-at.at ≡ q). apart (sym c.in_ok-at.ensures ∙ same) in
    let grown = rw c.in-Some.is at c.in_ok-stage.ensures.grown in
    let before = g.D.Depot.held c.args.depot.now in
    let between = g.D.Depot.held c.grow.new.depot in
    let kept = g.D.Depot.held c.place.new.self in
    let now = g.D.Depot.held c.shelve.new.self in
    let back = rw c.in-Err-NoMemory.field-0-is at c.in-Err-NoMemory.ensures.back in
    stays_then q before between now (c.grow.ensures.others q aside) (stays_then q between kept now (places_apart c.in_ok-at.at c.in_ok-to.to q between kept (g.D.S.Stage.held c.in-Some.stage) c.place.result grown.path c.place.ensures.changes.made aside (λ same. apart_to (sym c.in_ok-to.ensures ∙ same))) (shelved_apart c.in_ok-at.at q kept now (g.D.S.Stage.held c.in-Err-NoMemory.stage) (ap (λ s. (g.D.S.Stage.held s).path) back ∙ grown.path) c.shelve.ensures.changes.made aside))
