-- Fields by their names (RFC 9110, section 5), and where the body of a request ends (RFC 9112, section 6).
use Rattle.std.specs.Prelude.{ℕ, Bool, ◌&&◌, nat_eq, nat_le, if◌then◌else◌, List, [], ◌∷◌, length, map, codes}
use Rattle.std.specs.List.{list_all}
use Rattle.std.specs.Char.{is_ascii_digit, to_ascii_lowercase}
use Rattle.std.specs.Cmp.Lexicographic.{pointwise}
use Rattle.std.specs.Str.Parse.{digits_value}
use Rattle.http_wire.specs.declared.head.Framing.{Framing}
use Rattle.http_wire.specs.declared.head.Framing.TheVariants.{Length, Chunked, Bad}

-- equal without regard to ASCII case
abbrev pub is_same : List ℕ → List ℕ → Bool
is_same a b = pointwise nat_eq (map to_ascii_lowercase a) (map to_ascii_lowercase b)

-- the values of the fields of that name, in their order
abbrev pub values_of : List ℕ → List (List ℕ × List ℕ) → List (List ℕ)
values_of name [] = []
values_of name (f ∷ fields) = if is_same f.0 name then f.1 ∷ values_of name fields else values_of name fields

-- 1 to 18 decimal digits
abbrev pub is_number : List ℕ → Bool
is_number text = nat_le 1 (length text) && nat_le (length text) 18 && list_all is_ascii_digit text

-- a body of that length; a text that is no number of at most 18 digits is bad
abbrev pub length_framing : List ℕ → Framing
length_framing text = if is_number text then Length (digits_value 10 text) else Bad

-- the chunked coding, which HTTP/1.0 does not have
abbrev pub coding_framing : ℕ → List ℕ → Framing
coding_framing minor text = if nat_eq minor 1 && is_same text (codes "chunked") then Chunked else Bad

-- by the values of the Content-Length and the Transfer-Encoding fields: one of either, or a body of no bytes
abbrev pub framing_of : ℕ → List (List ℕ) → List (List ℕ) → Framing
framing_of minor [] [] = Length 0
framing_of minor (text ∷ []) [] = length_framing text
framing_of minor [] (text ∷ []) = coding_framing minor text
framing_of minor (a ∷ b ∷ rest) [] = Bad
framing_of minor [] (a ∷ b ∷ rest) = Bad
framing_of minor (a ∷ rest) (b ∷ more) = Bad

-- the framing of a request with these fields
abbrev pub framing_by : ℕ → List (List ℕ × List ℕ) → Framing
framing_by minor fields =
    framing_of minor (values_of (codes "content-length") fields) (values_of (codes "transfer-encoding") fields)
