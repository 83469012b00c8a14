use Rattle.std.proofs.Common.{subst}
use Rattle.std.specs.Prelude.{IsTrue}
use Rattle.keeper_api.specs.Rows.{Kept}
use Rattle.reg_journal.specs.Changes.{without_tags}
use Rattle.reg_tables.specs.InnerPending.{Works}
use Rattle.reg_tables.specs.InnerSteps.{removed, without_beside_manifest}
use Rattle.reg_tables.proofs.entries.take_tagged.Goals as goal

pub returns-clause-step : goal.returns-clause-step
returns-clause-step g c tells past base h =
    let a = c.args in
    let step = subst (λ (k : Kept). IsTrue k.tells → Works k.rows c.take_away.new.pending c.untag.new.pending (without_tags a.name.now a.digest.now) (λ r. r)) c.in_ok-take_away.ensures.reads.reads.held_stays c.in_ok-untag.ensures.step in
    step tells (removed a.name.now a.digest.now a.now past) (without_beside_manifest a.name.now a.digest.now base) (c.in_ok-take_away.ensures.step tells past base h)
