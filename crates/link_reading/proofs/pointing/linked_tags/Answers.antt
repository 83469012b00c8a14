use Rattle.std.proofs.Common.{None, Some, refl, sym, ap, subst, ◌∙◌, arith}
use Rattle.std.specs.Prelude.{⊤}
use Rattle.depot_api.specs.Files.{Files}
use Rattle.link_paths.specs.Places.{tag_path}
use Rattle.link_reading.specs.InnerPointing.{pointing_quest, AreLinkedTo}
use Rattle.link_reading.specs.InnerSpots.{spot}
use Rattle.link_reading.specs.InnerWalks.{AreNext, IsFirst}
use Rattle.link_reading.proofs.WalkLaws.{walks}
use Rattle.link_reading.proofs.PointingLaws.{HasPointed, points_first, points_all, points_more}
use Rattle.link_reading.proofs.pointing.linked_tags.Goals as goal

pub loop-init : goal.loop-init
loop-init g c = record {
  held = refl;
  later = omega arith;
  folder = c.below-walk.ensures.folder ∙ c.in_ok-tags_folder.ensures.path;
  quest = ap (λ name. pointing_quest name c.in_ok-links.links.digest) c.in_ok-links.ensures.name ∙ ap (pointing_quest c.args.name.now) c.in_ok-links.ensures.digest;
  ready = λ told. subst (AreNext (g.D.Depot.held c.args.depot.now).files c.below-walk.result.folder c.below-walk.result.after) (sym c.below-walk.ensures.left) tt;
  points = λ told. points_first (g.D.Depot.held c.args.depot.now).files c.args.name.now c.args.digest.now c.below-walk.result.after c.new-found.result.items c.below-walk.ensures.after c.new-found.ensures.items;
}

pub returns-in_default-clause-value : goal.returns-in_default-clause-value
returns-in_default-clause-value g c = λ told.
    let l = c.loop.invariant in
    let holding = g.D.Depot.held c.args.depot.now in
    let name = c.args.name.now in
    let digest = c.args.digest.now in
    let quest = pointing_quest name digest in
    let walk = walks _ holding _ quest (λ (files : Files). ⊤) (spot c.loop.walk) (spot c.first.new.self) _ None l.held l.quest c.in_default.is c.in_ok-tag.ensures.found told (l.ready told) tt in
    let ended = subst (λ f. IsFirst quest holding.files f c.loop.walk.after None) l.folder walk in
    subst (AreLinkedTo holding.files name digest) (sym c.from_vec.ensures)
    (points_all holding.files name digest c.loop.walk.after c.loop.found.items (l.points told) ended)

pub loop-preserved : goal.loop-preserved
loop-preserved g c =
    let l = c.loop.invariant in
    let holding = g.D.Depot.held c.args.depot.now in
    let name = c.args.name.now in
    let digest = c.args.digest.now in
    let quest = pointing_quest name digest in
    let tag = c.in-Some.tag in
    record {
      held = c.first.ensures.reads.held_stays ∙ l.held;
      later = omega (arith, l.later, c.first.ensures.reads.cause.later);
      folder = c.first.ensures.folder ∙ l.folder;
      quest = c.first.ensures.quest ∙ l.quest;
      ready = λ told. (walks _ holding _ quest (λ (files : Files). ⊤) (spot c.loop.walk) (spot c.first.new.self) _ (Some tag) l.held l.quest c.in-Some.is c.in_ok-tag.ensures.found told (l.ready told) tt).2;
      points = λ told.
          let walk = walks _ holding _ quest (λ (files : Files). ⊤) (spot c.loop.walk) (spot c.first.new.self) _ (Some tag) l.held l.quest c.in-Some.is c.in_ok-tag.ensures.found told (l.ready told) tt in
          let first = subst (λ f. IsFirst quest holding.files f c.loop.walk.after (Some tag)) l.folder walk.0 in
          let more = points_more holding.files name digest c.loop.walk.after c.loop.found.items (l.points told) tag first in
          subst (λ a. HasPointed holding.files name digest a c.add.new.found.items) (sym walk.1)
          (subst (HasPointed holding.files name digest (Some (tag_path name tag))) (sym c.in_ok-add.ensures) more);
    }
