use Rattle.std.proofs.Common.{◌∙◌, ap}
use Rattle.keeper_api.specs.Slots.{rows_in}
use Rattle.keeper_api.specs.InnerSlots.{with_outcomes}
use Rattle.keeper_api.proofs.SlotLaws.{outcomes_are, on_ok}
use Rattle.keeper_api.proofs.memory.room.commit.Goals as goal

pub returns-clause-made : goal.returns-clause-made
returns-clause-made c =
    on_ok c.change_all-changed.result _ _ (λ made. c.sweep.ensures.rows ∙ made ∙ ap (with_outcomes (rows_in c.args.map.now)) c.in_ok-outcomes.ensures.outcomes ∙ outcomes_are (rows_in c.args.map.now) c.args.changes.now) c.change_all-changed.ensures.made
