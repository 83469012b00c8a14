use Rattle.std.proofs.Common.{◌≡◌, ◌≤◌, length, None, Some, sym, ap, subst, ◌∙◌, arith, true≢false}
use Rattle.std.specs.Prelude.{IfSome, option_copied}
use Rattle.std.specs.BTreeMap as tree
use Rattle.std.specs.Ordering.{nat_cmp}
use Rattle.std.specs.Cmp.Lexicographic.{slice_cmp}
use Rattle.depot_api.specs.Files.{Files}
use Rattle.link_paths.specs.Places.{tag_path}
use Rattle.reg_entries.specs.Listing.{IsListing}
use Rattle.link_reading.specs.Meaning.{Means}
use Rattle.link_reading.specs.InnerLinks.{tag_quest, AreNoted}
use Rattle.link_reading.specs.InnerSpots.{spot}
use Rattle.link_reading.specs.InnerWalks.{IsFirst}
use Rattle.link_reading.proofs.WalkLaws.{walks, stays_sound}
use Rattle.reg_entries.proofs.ListingLaws.{lists_whole, lists_cut, room_pushed, some_asked}
use Rattle.link_reading.proofs.ListingLaws.{HasListed, lists_all, lists_next, lists_more}
use Rattle.link_reading.proofs.listing.tags.Goals as goal

pub returns-in_default-clause-value : goal.returns-in_default-clause-value
returns-in_default-clause-value g c = λ told.
    let l = c.loop.invariant in
    let holding = g.D.Depot.held c.args.depot.now in
    let name = c.args.name.now in
    let last = option_copied c.args.last in
    let s = l.lists told in
    let noted = λ (files : Files). AreNoted files c.loop.links.name (tree.get (slice_cmp nat_cmp) c.loop.links.noted) in
    let walk = walks _ holding _ (tag_quest name last) noted (spot c.loop.walk) (spot c.first.new.self) _ None l.held l.quest c.in_default.is c.in_ok-tag.ensures.found told (l.ready told) (l.sound told) in
    let none = subst (λ f. IsFirst (tag_quest name last) holding.files f c.loop.walk.after None) l.folder walk in
    let ended = lists_all holding.files name last c.loop.walk.after c.loop.found.items s none in
    let whole = lists_whole (Means holding.files) name last c.args.n c.loop.found.items (some_asked c.args.n c.eq.result c.eq.ensures c.if-eq.false) s.chain ended l.room in
    subst (λ ts. IsListing (Means holding.files) name c.args.n last ts None) (sym c.from_vec-in_default.ensures) whole

pub returns-then-is_full-clause-value : goal.returns-then-is_full-clause-value
returns-then-is_full-clause-value g c = λ told.
    let l = c.loop.invariant in
    let holding = g.D.Depot.held c.args.depot.now in
    let name = c.args.name.now in
    let last = option_copied c.args.last in
    let tag = c.in-Some.tag in
    let s = l.lists told in
    let noted = λ (files : Files). AreNoted files c.loop.links.name (tree.get (slice_cmp nat_cmp) c.loop.links.noted) in
    let walk = walks _ holding _ (tag_quest name last) noted (spot c.loop.walk) (spot c.first.new.self) _ (Some tag) l.held l.quest c.in-Some.is c.in_ok-tag.ensures.found told (l.ready told) (l.sound told) in
    let first = subst (λ f. IsFirst (tag_quest name last) holding.files f c.loop.walk.after (Some tag)) l.folder walk.0 in
    let next = lists_next holding.files name last c.loop.walk.after c.loop.found.items s tag first in
    let full = c.is_full.ensures.0 c.if-is_full.true ∙ ap (λ ts. Some (length ts)) c.deref.ensures.value in
    let cut = lists_cut (Means holding.files) name last c.args.n c.loop.found.items tag (some_asked c.args.n c.eq.result c.eq.ensures c.if-eq.false) s.chain next full in
    subst (λ ts. IsListing (Means holding.files) name c.args.n last ts c.args.n) (sym c.from_vec-then-is_full.ensures) cut

pub loop-preserved : goal.loop-preserved
loop-preserved g c =
    let l = c.loop.invariant in
    let holding = g.D.Depot.held c.args.depot.now in
    let name = c.args.name.now in
    let last = option_copied c.args.last in
    let tag = c.in-Some.tag in
    let noted = λ (files : Files). AreNoted files c.loop.links.name (tree.get (slice_cmp nat_cmp) c.loop.links.noted) in
    let short = λ (e : c.args.n ≡ Some (length c.loop.found.items)). true≢false (sym (c.is_full.ensures.1 (e ∙ ap (λ ts. Some (length ts)) (sym c.deref.ensures.value))) ∙ c.if-is_full.false) in
    record {
      held = c.first.ensures.reads.held_stays ∙ l.held;
      later = omega (arith, l.later, c.first.ensures.reads.cause.later);
      folder = c.first.ensures.folder ∙ l.folder;
      quest = c.first.ensures.quest ∙ l.quest;
      room = subst (λ ts. IfSome c.args.n (λ k. length ts ≤ k)) (sym c.in_ok-add.ensures) (room_pushed c.args.n c.loop.found.items tag l.room short);
      ready = λ told. (walks _ holding _ (tag_quest name last) noted (spot c.loop.walk) (spot c.first.new.self) _ (Some tag) l.held l.quest c.in-Some.is c.in_ok-tag.ensures.found told (l.ready told) (l.sound told)).2;
      sound = λ told.
          stays_sound _ holding noted (λ files. AreNoted files c.first.new.sought.name (tree.get (slice_cmp nat_cmp) c.first.new.sought.noted)) l.held c.in_ok-tag.ensures.sound told (l.sound told);
      lists = λ told.
          let s = l.lists told in
          let walk = walks _ holding _ (tag_quest name last) noted (spot c.loop.walk) (spot c.first.new.self) _ (Some tag) l.held l.quest c.in-Some.is c.in_ok-tag.ensures.found told (l.ready told) (l.sound told) in
          let first = subst (λ f. IsFirst (tag_quest name last) holding.files f c.loop.walk.after (Some tag)) l.folder walk.0 in
          let more = lists_more holding.files name last c.loop.walk.after c.loop.found.items s tag first in
          subst (λ a. HasListed holding.files name last a c.add.new.found.items) (sym walk.1)
          (subst (HasListed holding.files name last (Some (tag_path name tag))) (sym c.in_ok-add.ensures) more);
    }
