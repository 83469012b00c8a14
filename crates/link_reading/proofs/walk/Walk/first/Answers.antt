use Rattle.std.proofs.Common.{None, Some, sym, subst, ◌∙◌, arith}
use Rattle.std.specs.Vec.Iter.{into_iter_items}
use Rattle.depot_api.specs.Pages.{IsNextPath}
use Rattle.link_reading.specs.InnerSpots.{spot}
use Rattle.link_reading.specs.InnerWalks.{AreNext}
use Rattle.link_reading.proofs.WalkLaws.{passed_next, passes, looks, stays_sound}
use Rattle.link_reading.proofs.walk.Walk.first.Goals as goal

pub loop-preserved : goal.loop-preserved
loop-preserved g c =
    let l = c.loop.invariant in
    let holding = g.D.Depot.held c.args.depot.now in
    let files = holding.files in
    let path = c.in-Some.path in
    let left = into_iter_items c.next.new.self.left in
    let held = c.next.ensures.reads.held_stays ∙ l.held in
    record {
      held = c.look.ensures.reads.held_stays ∙ held;
      later = omega (arith, l.later, c.next.ensures.reads.cause.later, c.look.ensures.reads.cause.later);
      folder = c.next.ensures.folder ∙ l.folder;
      quest = c.look.ensures.quest ∙ l.quest;
      sound = λ told sound.
          stays_sound _ holding (g.S.Seek.sound c.loop.sought) (g.S.Seek.sound c.look.new.self) held c.in_ok-found.ensures.sound told (l.sound told sound);
      ready = λ told ready sound.
          let turn = passes _ holding (spot c.loop.self) left _ (Some path) l.held c.in-Some.is c.in_ok-path.ensures.next told (l.ready told ready sound) in
          subst (λ f. AreNext files f (Some path) left) (sym c.next.ensures.folder) turn.1;
      passed = λ told ready sound.
          let turn = passes _ holding (spot c.loop.self) left _ (Some path) l.held c.in-Some.is c.in_ok-path.ensures.next told (l.ready told ready sound) in
          let next = subst (λ f. IsNextPath files f c.loop.self.after (Some path)) l.folder turn.0 in
          let here = looks _ holding _ (g.S.Seek.quest c.args.sought.now) (g.S.Seek.sound c.loop.sought) path _ None held l.quest c.in_default-found.is c.in_ok-found.ensures.found told (l.sound told sound) in
          passed_next (g.S.Seek.quest c.args.sought.now) files c.args.self.now.folder c.args.self.now.after c.loop.self.after (l.passed told ready sound) path next here;
    }
