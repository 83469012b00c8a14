use Rattle.std.proofs.Common.{sym, ap, ◌∙◌}
use Rattle.std.specs.Prelude.{not}
use Rattle.link_reading.proofs.LinkLaws.{found_is}
use Rattle.link_reading.proofs.PointingLaws.{points_nowhere, points_then}
use Rattle.link_reading.proofs.pointing.tags_to.Goals as goal

pub returns-then-is_none-clause-value : goal.returns-then-is_none-clause-value
returns-then-is_none-clause-value g c = λ told.
    let files = (g.D.Depot.held c.args.depot.now).files in
    let found = found_is files c.args.name.now c.args.digest.now c.in_ok-manifest.field-0 (c.in_ok-manifest.ensures.value told) in
    points_nowhere files c.args.name.now c.args.digest.now c.from_vec.result (sym found ∙ c.is_none.ensures ∙ ap not c.if-is_none.true) (c.from_vec.ensures ∙ c.new.ensures.items)

pub returns-clause-value : goal.returns-clause-value
returns-clause-value g c = λ told.
    let holding = g.D.Depot.held c.args.depot.now in
    let found = found_is holding.files c.args.name.now c.args.digest.now c.in_ok-manifest.field-0 (c.in_ok-manifest.ensures.value told) in
    points_then holding (g.D.Depot.held c.manifest.new.depot) c.args.name.now c.args.digest.now c.linked_tags.result c.in_ok-manifest.ensures.reads.held_stays (sym found ∙ c.is_none.ensures ∙ ap not c.if-is_none.false) c.linked_tags.ensures.value told
