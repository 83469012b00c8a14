use Rattle.std.proofs.Common.{sym, subst}
use Rattle.reg_names.specs.Reading.{ReadsBack}
use Rattle.reg_names.specs.Tags.{IsTag}
use Rattle.link_paths.specs.Places.{tag_path}
use Rattle.link_reading.specs.InnerPointing.{pointing_quest}
use Rattle.link_reading.specs.InnerWalks.{LiesAt}
use Rattle.link_reading.proofs.PointingLaws.{no_link_lies, link_lies}
use Rattle.link_reading.proofs.pointing.LinksToSeek.look.Goals as goal

pub returns-in_default-clause-found : goal.returns-in_default-clause-found
returns-in_default-clause-found g c = λ told sound.
    let links = c.args.self.now in
    no_link_lies (g.D.Depot.held c.args.depot.now).files links.name links.digest c.args.path.now
    (subst (ReadsBack IsTag (tag_path links.name) c.args.path.now) c.in_default.is (c.in_ok-tag.ensures links.name c.as_str-name.ensures.name links.own))

pub returns-clause-found : goal.returns-clause-found
returns-clause-found g c = λ told sound.
    let links = c.args.self.now in
    let files = (g.D.Depot.held c.args.depot.now).files in
    let read = subst (ReadsBack IsTag (tag_path links.name) c.args.path.now) c.in-Some.is (c.in_ok-tag.ensures links.name c.as_str-name.ensures.name links.own) in
    subst (LiesAt (pointing_quest links.name links.digest) files c.args.path.now) (sym c.then_some.ensures)
    (link_lies files links.name links.digest c.args.path.now c.in-Some.tag c.in_ok-linked.linked c.as_str-name.ensures.name read (c.in_ok-linked.ensures.value told))
