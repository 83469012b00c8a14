use Rattle.std.proofs.Common.{◌∙◌}
use Rattle.link_reading.proofs.LinkLaws.{noted_more, found_is}
use Rattle.link_reading.proofs.listing.TagLinks.has_manifest.Goals as goal

pub returns-clause-noted : goal.returns-clause-noted
returns-clause-noted g c = λ told are.
    let files = (g.D.Depot.held c.args.depot.now).files in
    let has = c.is_some-has.ensures ∙ found_is files c.args.self.now.name c.args.digest.now c.in_ok-manifest.field-0 (c.in_ok-manifest.ensures.value told) in
    noted_more files c.args.self.now.name _ _ c.args.digest.now c.is_some-has.result are has c.in_ok-note.ensures
