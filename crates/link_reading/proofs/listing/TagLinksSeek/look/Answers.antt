use Rattle.std.proofs.Common.{◌≡◌, sym, subst, ◌∙◌}
use Rattle.std.specs.Prelude.{IsTrue, is_some}
use Rattle.std.specs.BTreeMap as tree
use Rattle.std.specs.Ordering.{nat_cmp}
use Rattle.std.specs.Cmp.Lexicographic.{slice_cmp}
use Rattle.reg_names.specs.Tags.{IsTag}
use Rattle.reg_names.specs.Reading.{ReadsBack}
use Rattle.link_paths.specs.Places.{tag_path}
use Rattle.link_reading.specs.Meaning.{manifest_at}
use Rattle.link_reading.specs.InnerLinks.{tag_quest, AreNoted}
use Rattle.link_reading.specs.InnerWalks.{LiesAt}
use Rattle.link_reading.proofs.LinkLaws.{not_behind_lies, tag_lies}
use Rattle.link_reading.proofs.listing.TagLinksSeek.look.Goals as goal

pub returns-then-not-is_behind-clause-found : goal.returns-then-not-is_behind-clause-found
returns-then-not-is_behind-clause-found g c = λ told are.
    let links = c.args.self.now in
    let read = subst (ReadsBack IsTag (tag_path links.name) c.args.path.now) c.in-Some.is (c.in_ok-tag.ensures links.name c.as_str-name.ensures.name links.own) in
    not_behind_lies (g.D.Depot.held c.args.depot.now).files links.name links.last c.args.path.now c.in-Some.tag c.as_str-name.ensures.name read (sym c.if-not-is_behind.ensures)

pub returns-clause-found : goal.returns-clause-found
returns-clause-found g c = λ told are.
    let links = c.args.self.now in
    let files = (g.D.Depot.held c.args.depot.now).files in
    let read = subst (ReadsBack IsTag (tag_path links.name) c.args.path.now) c.in-Some.is (c.in_ok-tag.ensures links.name c.as_str-name.ensures.name links.own) in
    let has = subst (λ h. IsTrue h.tells → AreNoted h.files links.name (tree.get (slice_cmp nat_cmp) links.noted) → c.in_ok-has.has ≡ is_some (manifest_at h.files links.name c.in-Some-2.digest)) c.named_digest.ensures.reads.held_stays c.in_ok-has.ensures.value told are in
    subst (LiesAt (tag_quest links.name links.last) files c.args.path.now) (sym c.then_some.ensures)
    (tag_lies files links.name links.last c.args.path.now c.in-Some.tag c.in-Some-2.digest c.in_ok-has.has c.as_str-name.ensures.name read (sym c.if-not-is_behind.ensures) (sym c.in-Some-2.is ∙ c.in_ok-digest.ensures.value told) has)

pub returns-clause-sound : goal.returns-clause-sound
returns-clause-sound g c = λ told are.
    let links = c.args.self.now in
    let files = (g.D.Depot.held c.args.depot.now).files in
    let noted = tree.get (slice_cmp nat_cmp) c.has_manifest.new.self.noted in
    let more = subst (λ h. IsTrue h.tells → AreNoted h.files links.name (tree.get (slice_cmp nat_cmp) links.noted) → AreNoted h.files links.name noted) c.named_digest.ensures.reads.held_stays c.in_ok-has.ensures.noted told are in
    subst (λ name. AreNoted files name noted) (sym c.has_manifest.ensures.name) more
