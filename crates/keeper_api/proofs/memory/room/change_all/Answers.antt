use Rattle.keeper_api.specs.InnerSlots.{keys_of}
use Rattle.keeper_api.proofs.SlotLaws.{all_among}
use Rattle.keeper_api.proofs.memory.room.change_all.Goals as goal

pub returns-clause-held : goal.returns-clause-held
returns-clause-held c =
    c.place_all.ensures.held (keys_of c.args.changes.now) (rw c.requires.outcomes (all_among c.args.changes.now)) c.requires.fit c.in_ok-make_room.ensures.held
