-- The proof's own: no public clause cites what stands here.
-- Fields of one name.
use Rattle.std.specs.Prelude.{◌≡◌, ℕ, Bool, ◌&&◌, List, ◌∷◌, codes}
use Rattle.http_wire.specs.Framing.{is_same}
use Rattle.http_wire.specs.Questions.{has_element}

-- two values or more
abbrev pub HasMany : List (List ℕ) → Type 0
HasMany values = (a : List ℕ) × (b : List ℕ) × (rest : List (List ℕ)) × (values ≡ a ∷ b ∷ rest)

-- a Connection field with the element `close`
abbrev pub closes : List ℕ → List ℕ → Bool
closes name value = is_same name (codes "connection") && has_element (codes "close") value
