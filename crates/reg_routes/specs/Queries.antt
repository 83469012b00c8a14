-- The query of a target (URL Standard, "application/x-www-form-urlencoded parsing"). Bytes that are no UTF-8 are read
-- as replacement characters.
use Rattle.std.specs.Prelude.{ℕ, ◌&&◌, nat_eq, nat_le, if◌then◌else◌, List, [], ◌∷◌, length, Option, Some, None}
use Rattle.std.specs.List.{list_all}
use Rattle.std.specs.Char.{is_ascii_digit}
use Rattle.std.specs.Str.Parse.{digits_value}
use Rattle.std.specs.Cmp.Lexicographic.{pointwise}
use Rattle.std.specs.Str.Lossy.{utf8_lossy}
use Rattle.form_urlencoded.specs.Form.{decode}

-- the text that a name or a value stands for
abbrev pub text_of : List ℕ → List ℕ
text_of bytes = utf8_lossy (decode bytes)

-- the value of the first pair with that key
abbrev pub value_in : List ℕ → List (List ℕ × List ℕ) → Option (List ℕ)
value_in key [] = None
value_in key ((name, value) ∷ pairs) =
    if pointwise nat_eq (text_of name) key then Some (text_of value) else value_in key pairs

-- the most digits of a count
abbrev pub count_digits : ℕ
count_digits = 9

-- the number that 1 to 9 decimal digits write
abbrev pub count_text : List ℕ → Option ℕ
count_text text =
    if nat_le 1 (length text) && nat_le (length text) count_digits && list_all is_ascii_digit text
    then Some (digits_value 10 text) else None
