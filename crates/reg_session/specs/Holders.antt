-- Who holds a world.
use Rattle.reg_world.specs.declared.world.World.{World}
use Rattle.reg_session.specs.declared.holder.Lent.{Lent}

-- with that world behind the same reference
abbrev pub with_lent : {D K : Type 0} → Lent D K → World D K → Lent D K
with_lent s w = record { world = record s.world { now = w } }
