use Rattle.std.proofs.Common.{◌∙◌, arith}
use Rattle.page_walk.proofs.WalkLaws.{page_of, walked_more, walked_all}
use Rattle.page_walk.proofs.files_under.Goals as goal

pub returns-in_default-clause-value : goal.returns-in_default-clause-value
returns-in_default-clause-value g c = λ told.
    let l = c.loop.invariant in
    let held = g.D.Depot.held c.args.depot.now in
    let page = page_of held _ c.args.under.now _ c.loop.last c.args.most c.in_ok-page.page.items l.held c.as_ref.ensures.value c.in_ok-page.ensures.value told in
    walked_all held.files c.args.under.now c.loop.last c.loop.files _ c.len.result c.args.most c.in_ok-page.page.items (l.walked told) c.requires page (c.len.ensures ∙ c.in_default.ensures.cases.0) (c.len.ensures ∙ c.in_ok-page.page.ok.0) c.saturating_add-files.ensures

pub loop-preserved : goal.loop-preserved
loop-preserved g c =
    let l = c.loop.invariant in
    let held = g.D.Depot.held c.args.depot.now in
    record {
      held = c.page.ensures.reads.held_stays ∙ l.held;
      later = omega (arith, l.later, c.page.ensures.reads.cause.later);
      walked = λ told.
          let page = page_of held _ c.args.under.now _ c.loop.last c.args.most c.in_ok-page.page.items l.held c.as_ref.ensures.value c.in_ok-page.ensures.value told in
          walked_more held.files c.args.under.now c.loop.last c.loop.files _ c.len.result c.args.most c.in_ok-page.page.items c.pop.new.self.items c.in-Some.path (l.walked told) page c.in-Some.ensures.items (c.len.ensures ∙ c.in_ok-page.page.ok.0) c.saturating_add-files.ensures;
    }
