-- Words that are drawn.
use Rattle.std.specs.Prelude.{◌≡◌, ℕ, ◌+◌, List, Option, Some, None}

-- which word the draw number k from here gives, where that is told
abbrev pub Words : Type 0
Words = Option (ℕ → List ℕ)

-- the first word was drawn, and those behind it moved up
abbrev pub Draws : Words → List ℕ → Words → Type 0
Draws None word after = after ≡ None
Draws (Some words) word after = (word ≡ words 0) × (after ≡ Some (λ k. words (k + 1)))
