use Rattle.reg_tables.specs.InnerSteps.{touched_target}
use Rattle.reg_tables.proofs.TouchLaws.{noted}
use Rattle.reg_tables.proofs.entries.unpoint.Goals as goal

pub returns-clause-step : goal.returns-clause-step
returns-clause-step g c tells past base h =
    let a = c.args in
    noted c.remove_tag.result _ c.in_ok-noting.ensures.ok c.remove_tag.ensures (g.K.Keeper.kept a.keeper.now).rows (touched_target a.name.now a.tag.now a.now past) base
    (c.in_ok-touch_target.ensures.step tells past base h)
