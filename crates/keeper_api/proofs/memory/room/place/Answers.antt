use Rattle.keeper_api.specs.Slots.{slots_in}
use Rattle.keeper_api.proofs.SlotLaws.{put_held}
use Rattle.keeper_api.proofs.memory.room.place.Goals as goal

pub returns-clause-held : goal.returns-clause-held
returns-clause-held c =
    put_held (slots_in c.args.map.now) (slots_in c.insert.new.self) c.args.key c.args.slot c.in-Ok.ensures.updates.0
