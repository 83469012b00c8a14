use Rattle.std.proofs.Common.{subst, ap, sym, ◌∙◌, true, Some, ◌≡◌, List, Option, ℕ}
use Rattle.keeper_api.specs.Changes.{ArePutsFit}
use Rattle.keeper_api.specs.InnerSlots.{AreHeld, is_held}
use Rattle.keeper_api.proofs.SlotLaws.{next_left, outcomes_turn, held_push, puts_parts}
use Rattle.keeper_api.proofs.memory.room.outcomes.Goals as goal

pub loop-change-preserved : goal.loop-change-preserved
loop-change-preserved c =
    let next = next_left c.args.changes.now c.loop-change.change-index c.change-item.result c.loop-change-test.true c.change-item.is in
    let puts = puts_parts c.change-item.result _ (subst ArePutsFit next c.loop-change.invariant.left) in
    let held : is_held true c.in_ok-outcome.field-0.0 (Some c.in_ok-outcome.field-0.1) ≡ true =
    ap (λ (o : List ℕ × Option (List ℕ)). is_held true o.0 (Some o.1)) c.in_ok-outcome.ensures.outcome ∙ c.in_ok-outcome.ensures.fit puts.0 in
    record {
      all = outcomes_turn c.loop-change.outcomes.items c.push.new.self.items c.in_ok-outcome.field-0 c.args.changes.now c.loop-change.change-index c.change-item.result c.loop-change-test.true c.change-item.is c.in_ok-push.ensures.items c.in_ok-outcome.ensures.outcome c.loop-change.invariant.all;
      fit = subst AreHeld (sym c.in_ok-push.ensures.items) (held_push c.loop-change.outcomes.items c.in_ok-outcome.field-0 c.loop-change.invariant.fit held);
      left = puts.1;
    }
