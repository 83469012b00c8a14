use Rattle.std.proofs.Common.{◌≤◌, length, rules, arith}
use Rattle.keeper_api.specs.Slots.{slots_in}
use Rattle.keeper_api.specs.InnerSlots.{keys_of}
use Rattle.keeper_api.proofs.SlotLaws.{is_among, room_turn, none_left}
use Rattle.keeper_api.proofs.memory.room.make_room.Goals as goal

pub returns-in_err-make_slot-clause-held : goal.returns-in_err-make_slot-clause-held
returns-in_err-make_slot-clause-held c =
    c.in_err-make_slot.ensures.held (keys_of c.args.changes.now) (rw c.key.ensures (is_among c.args.changes.now c.loop-change.change-index c.change-item.result c.loop-change-test.true c.change-item.is)) c.loop-change.invariant.held

pub loop-change-preserved : goal.loop-change-preserved
loop-change-preserved c =
    let here = is_among c.args.changes.now c.loop-change.change-index c.change-item.result c.loop-change-test.true c.change-item.is in
    record {
      rows = search rules;
      held = c.in_ok-make_slot.ensures.held (keys_of c.args.changes.now) (rw c.key.ensures here) c.loop-change.invariant.held;
      room = room_turn (slots_in c.loop-change.map) (slots_in c.make_slot.new.map) c.args.changes.now c.loop-change.change-index c.change-item.result c.loop-change-test.true c.change-item.is c.in_ok-make_slot.ensures.stays (rw c.key.ensures at c.in_ok-make_slot.ensures.room) c.loop-change.invariant.room;
    }

pub returns-clause-room : goal.returns-clause-room
returns-clause-room c =
    let done : length c.args.changes.now ≤ c.loop-change.change-index = omega (arith, c.loop-change-test.false) in
    c.loop-change.invariant.room (slots_in c.loop-change.map) (λ q h. h) (rw (none_left c.args.changes.now c.loop-change.change-index done) tt)
