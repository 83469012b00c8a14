use Rattle.std.proofs.lemmas.Result.{IfOk-weaker}
use Rattle.depot_api.proofs.PageLaws.{ArePathsAbove-from_page}
use Rattle.depot_api.proofs.RangeLaws.{IsPage-from_range}
use Rattle.depot_api.proofs.memory.slots.Slots.page.Goals as goal

pub returns-clause-value : goal.returns-clause-value
returns-clause-value c =
    IfOk-weaker c.first_paths.result _ _ (λ page. IsPage-from_range c.args.self.now.slots _ c.args.under.now _ c.args.most _ page.items c.range-range.ensures.ordered c.first_bound-start.ensures (c.range-range.ensures.between tt)) c.first_paths.ensures

pub returns-clause-order : goal.returns-clause-order
returns-clause-order c =
    IfOk-weaker c.first_paths.result _ _ (λ page. ArePathsAbove-from_page _ _ c.args.most _ page.items) (returns-clause-value c)
