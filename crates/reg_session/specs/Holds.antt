-- One hold of a world that others may hold before it and after it.
use Rattle.std.specs.Prelude.{Option, Result}
use Rattle.depot_api.specs.Blobs.{Rest}
use Rattle.reg_entries.specs.declared.reply.Reply.{Reply}
use Rattle.reg_entries.specs.declared.trouble.Trouble.{Trouble}
use Rattle.reg_world.specs.Worlds.{Data}
use Rattle.reg_world.specs.Moves.{Act, Seen, Moves, SeesBlob}

-- the world was found as others left it, and left as the act leaves it; what may be found next is what may follow that
pub record Held (between : Data → Data → Type 0) (old : Data) (act : Act) (seen : Seen) (new : Data) : Type 0 where
  pub found : Data
  pub left : Data
  pub before : between old found
  pub moves : Moves found act seen left
  pub behind : (next : Data) → between new next → between left next

-- the same of one that gives a blob, whatever bytes that gives
abbrev pub HeldBlob : {B : Type 0} → (B → Rest) → (Data → Data → Type 0) → Data → Act
    → Result (Reply × Option B) Trouble → Data → Type 0
HeldBlob rest between old act result new =
    (seen : Seen) → SeesBlob rest result seen → Held between old act seen new
