use Rattle.std.proofs.Common.{None}
use Rattle.reg_journal.specs.Changes.{with_link}
use Rattle.reg_tables.proofs.TouchLaws.{noted}
use Rattle.reg_tables.proofs.entries.drop_link.Goals as goal

pub returns-clause-step : goal.returns-clause-step
returns-clause-step g c tells past base h =
    let a = c.args in
    c.in_ok-touch_blob.ensures.step tells (with_link a.name.now a.digest.now None past) base
    (noted c.unlink.result _ c.in_ok-noting.ensures.ok c.unlink.ensures (g.K.Keeper.kept a.keeper.now).rows past base h)
