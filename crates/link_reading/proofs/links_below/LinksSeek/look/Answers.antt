use Rattle.std.proofs.Common.{sym, subst}
use Rattle.reg_names.specs.Digests.{IsDigest}
use Rattle.reg_names.specs.Reading.{ReadsBack}
use Rattle.link_reading.specs.InnerLinks.{link_path, link_quest}
use Rattle.link_reading.specs.InnerWalks.{LiesAt}
use Rattle.link_reading.proofs.LinkLaws.{none_lies, digest_lies}
use Rattle.link_reading.proofs.links_below.LinksSeek.look.Goals as goal

pub returns-in_default-clause-found : goal.returns-in_default-clause-found
returns-in_default-clause-found g c = λ told sound.
    let links = c.args.self.now in
    none_lies (g.D.Depot.held c.args.depot.now).files links.name links.wanted c.args.path.now
    (subst (ReadsBack IsDigest (link_path links.name links.wanted) c.args.path.now) c.in_default.is c.in_ok-digest.ensures.digest)

pub returns-clause-found : goal.returns-clause-found
returns-clause-found g c = λ told sound.
    let links = c.args.self.now in
    let files = (g.D.Depot.held c.args.depot.now).files in
    let read = subst (ReadsBack IsDigest (link_path links.name links.wanted) c.args.path.now) c.in-Some.is c.in_ok-digest.ensures.digest in
    subst (LiesAt (link_quest links.name links.wanted) files c.args.path.now) (sym c.then_some.ensures)
    (digest_lies files links.name links.wanted c.args.path.now c.in-Some.digest c.in_ok-wanted.wanted c.in_ok-digest.ensures.name read (c.in_ok-wanted.ensures.value told))
