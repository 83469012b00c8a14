-- Holds of a world, one after the other, and what a session brings to them.
use Rattle.std.specs.Prelude.{◌≡◌, ℕ, List, [], ◌∷◌, Option, IfSome}
use Rattle.reg_names.specs.UploadIds.{version_4}
use Rattle.depot_api.specs.Ids.{Words, Draws}
use Rattle.reg_world.specs.Worlds.{Data}
use Rattle.reg_world.specs.Moves.{Act, starts, takes, Seen, Moves}

-- one hold: what was done, what was seen, and the world before and after
pub record Hold : Type 0 where
  pub act : Act
  pub seen : Seen
  pub found : Data
  pub left : Data

-- by these holds, with what others may do between them, from what was known of the world to what is known of it: what
-- may be found next is what may follow the last hold
abbrev pub Chain : (Data → Data → Type 0) → Data → List Hold → Data → Type 0
Chain between old [] new = (next : Data) → between new next → between old next
Chain between old (h ∷ holds) new =
    between old h.found × Moves h.found h.act h.seen h.left × Chain between h.left holds new

-- what a session brings to its holds: the number of its holder, and what its clock reads, where that is told
pub record Own : Type 0 where
  pub who : ℕ
  pub reading : Option ℕ

abbrev pub own : ℕ → Option ℕ → Own
own who reading = record { who = who; reading = reading }

-- a session is taken for the holder, and an upload starts with the id of the next word, at the clock's moment
abbrev pub Brings : Own → Words → Act → Words → Type 0
Brings o words (takes who name id start) after = (who ≡ o.who) × (after ≡ words)
Brings o words (starts name mount id now) after =
    (word : List ℕ) × Draws words word after × (id ≡ version_4 word) × IfSome o.reading (λ at. now ≡ at)
Brings o words act after = after ≡ words

-- to one hold after the other
abbrev pub BringsAll : Own → Words → List Hold → Words → Type 0
BringsAll o words [] after = after ≡ words
BringsAll o words (h ∷ holds) after = (mid : Words) × Brings o words h.act mid × BringsAll o mid holds after
