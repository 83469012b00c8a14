use Rattle.std.proofs.Common.{subst}
use Rattle.depot_api.specs.Pages.{IsPage}
use Rattle.link_reading.specs.InnerSpots.{spot}
use Rattle.link_reading.proofs.WalkLaws.{first_held, first_of_page}
use Rattle.link_reading.proofs.walk.Walk.next.Goals as goal

pub returns-clause-next : goal.returns-clause-next
returns-clause-next g c = λ told ready.
    let files = (g.D.Depot.held c.args.depot.now).files in
    let from = spot c.args.self.now in
    let page = subst (λ after. IsPage files from.folder after 64 c.in_ok-page.page.items) c.as_ref.ensures.value (c.in_ok-page.ensures.value told) in
    first_of_page files from 63 c.in_ok-page.page.items _ c.next-2.result page (first_held c.next-2.result c.into_iter.result c.next-2.new.self _ c.into_iter.ensures.rest c.next-2.ensures.cases)
