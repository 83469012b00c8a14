use Rattle.std.proofs.Common.{Some}
use Rattle.reg_journal.specs.Changes.{with_link, link_of}
use Rattle.reg_tables.proofs.TouchLaws.{noted}
use Rattle.reg_tables.proofs.entries.bring_link.Goals as goal

pub returns-clause-step : goal.returns-clause-step
returns-clause-step g c tells past base h =
    let a = c.args in
    c.in_ok-bring_blob.ensures.step tells (with_link a.name.now a.digest.now (Some (link_of a.size a.now)) past) base
    (noted c.link.result _ c.in_ok-noting.ensures.ok c.link.ensures (g.K.Keeper.kept a.keeper.now).rows past base h)
