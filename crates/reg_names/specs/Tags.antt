-- Tags: a letter, a digit or `_`, and up to 127 of these, `.` and `-` (OCI Distribution Specification 1.1, "Pulling
-- manifests").
use Rattle.std.specs.Prelude.{ℕ, Bool, false, ◌&&◌, ◌||◌, ◌==◌, ◌-◌, nat_le, List, [], ◌∷◌, length, IsTrue}
use Rattle.std.specs.List.{list_all}
use Rattle.reg_names.specs.Limits.{tag_limit}

abbrev pub is_lower : ℕ → Bool
is_lower b = nat_le 97 b && nat_le b 122

abbrev pub is_digit : ℕ → Bool
is_digit b = nat_le 48 b && nat_le b 57

abbrev pub is_upper : ℕ → Bool
is_upper b = nat_le 65 b && nat_le b 90

-- a letter, a digit or `_`
abbrev pub is_word : ℕ → Bool
is_word b = is_lower b || is_upper b || is_digit b || b == 95

-- what may follow the first byte of a tag
abbrev pub is_tag_byte : ℕ → Bool
is_tag_byte b = is_word b || b == 46 || b == 45

abbrev pub is_tag : List ℕ → Bool
is_tag [] = false
is_tag (first ∷ rest) = is_word first && nat_le (length rest) (tag_limit - 1) && list_all is_tag_byte rest

abbrev pub IsTag : List ℕ → Type 0
IsTag text = IsTrue (is_tag text)
