use Rattle.std.proofs.Common.{◌∙◌, ap, sym, subst}
use Rattle.std.specs.Vec.Iter.{into_iter_items}
use Rattle.keeper_api.specs.Slots.{slots_in, rows_in}
use Rattle.keeper_api.specs.InnerSlots.{with_outcomes, HaveSlots, AreHeld, AreAmong}
use Rattle.keeper_api.proofs.SlotLaws.{all_stay}
use Rattle.keeper_api.proofs.memory.room.place_all.Goals as goal

pub loop-key-preserved : goal.loop-key-preserved
loop-key-preserved c =
    let first = c.in-Some.ensures.steps.0 in
    let had = subst (HaveSlots (slots_in c.loop-key.map)) first c.loop-key.invariant.room in
    record {
      room = all_stay (slots_in c.loop-key.map) (slots_in c.place.new.map) c.place.ensures.stays (into_iter_items c.next.new.self) had.1;
      rows = ap (λ f. with_outcomes f (into_iter_items c.next.new.self)) c.place.ensures.rows ∙ sym (ap (with_outcomes (rows_in c.loop-key.map)) first) ∙ c.loop-key.invariant.rows;
      held = λ keys all fit held.
          let before = c.loop-key.invariant.held keys all fit held in
          let here = subst (AreAmong keys) first before.0 in
          let fits = subst AreHeld first before.1 in
          (here.1, fits.1, c.place.ensures.held keys here.0 fits.0 before.2);
    }
