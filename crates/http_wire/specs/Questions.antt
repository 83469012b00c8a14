-- What a head asks for, beside its target.
use Rattle.std.specs.Prelude.{◌≡◌, ℕ, suc, Bool, true, false, not, ◌&&◌, ◌||◌, ◌==◌, nat_eq, nat_le, if◌then◌else◌, List, [], ◌∷◌, length, take, drop, codes, Option, Some, None, IsUtf8}
use Rattle.std.specs.List.{list_all, list_any, slice_split, position}
use Rattle.std.specs.Str.Parse.{digits_value}
use Rattle.httparse.specs.Grammar.{is_ows, skip_ows}
use Rattle.http_wire.specs.declared.head.Framing.{Framing}
use Rattle.http_wire.specs.declared.head.Framing.TheVariants.{Length, Chunked, Bad}
use Rattle.http_wire.specs.Framing.{is_same, is_number, values_of, framing_by}

-- the text, without regard to ASCII case, and then white space alone
abbrev pub is_name_then_ows : List ℕ → List ℕ → Bool
is_name_then_ows name text =
    nat_le (length name) (length text)
    && (is_same (take (length name) text) name && list_all is_ows (drop (length name) text))

-- an element between commas that is the text, with white space around it (RFC 9110, section 5.6.1)
abbrev pub has_element : List ℕ → List ℕ → Bool
has_element name value =
    list_any (λ element. is_name_then_ows name (skip_ows element)) (slice_split (λ b. b == 44) value)

-- HTTP/1.0, or a Connection field with the element `close` (RFC 9112, section 9.6)
abbrev pub ends_connection : ℕ → List (List ℕ × List ℕ) → Bool
ends_connection minor fields =
    nat_eq minor 0 || list_any (has_element (codes "close")) (values_of (codes "connection") fields)

-- a body that is not of length 0
abbrev pub has_body : Framing → Bool
has_body (Length n) = not (n == 0)
has_body Chunked = true
has_body Bad = true

-- the first of them is the text, without regard to ASCII case
abbrev pub is_first : List ℕ → List (List ℕ) → Bool
is_first text [] = false
is_first text (value ∷ rest) = is_same value text

-- HTTP/1.1 with a body, whose first Expect field is `100-continue` (RFC 9110, section 10.1.1)
abbrev pub expects_continue : ℕ → List (List ℕ × List ℕ) → Bool
expects_continue minor fields =
    nat_eq minor 1
    && (is_first (codes "100-continue") (values_of (codes "expect") fields) && has_body (framing_by minor fields))

-- a text, or no bytes for what is no UTF-8
abbrev pub IsTextOf : List ℕ → List ℕ → Type 0
IsTextOf value text = (IsUtf8 value → text ≡ value) × (¬ (IsUtf8 value) → text ≡ [])

-- the start of `<start>-<end>`, cut at the first `-`: each is 1 to 18 decimal digits
abbrev pub start_at : List ℕ → Option ℕ → Option ℕ
start_at value None = None
start_at value (Some dash) =
    if is_number (take dash value) && is_number (drop (suc dash) value)
    then Some (digits_value 10 (take dash value)) else None

-- the start that the first of these values gives
abbrev pub start_of : List (List ℕ) → Option ℕ
start_of [] = None
start_of (value ∷ rest) = start_at value (position (λ b. b == 45) value)
