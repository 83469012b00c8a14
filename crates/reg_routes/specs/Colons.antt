-- Colons in the segments of a path (RFC 3986, section 2.1): `%3A` and `%3a` stand for one.
use Rattle.std.specs.Prelude.{ℕ, Bool, false, ◌&&◌, ◌||◌, ◌==◌, if◌then◌else◌, List, [], ◌∷◌}

-- three bytes that stand for a colon
abbrev pub is_colon : ℕ → ℕ → ℕ → Bool
is_colon a b c = a == 37 && (b == 51 && (c == 65 || c == 97))

abbrev pub begins_colon : List ℕ → Bool
begins_colon (a ∷ b ∷ c ∷ rest) = is_colon a b c
begins_colon _ = false

-- the path with its colons
abbrev pub with_colons : List ℕ → List ℕ
with_colons (a ∷ b ∷ c ∷ rest) = if is_colon a b c then 58 ∷ with_colons rest else a ∷ with_colons (b ∷ c ∷ rest)
with_colons (a ∷ b ∷ []) = a ∷ b ∷ []
with_colons (a ∷ []) = a ∷ []
with_colons [] = []
