-- Paths: parts with slashes between them.
use Rattle.std.specs.Prelude.{◌≡◌, ℕ, Bool, not, ◌&&◌, ◌||◌, ◌==◌, nat_le, nat_eq, List, length, codes, Option, Some, None, IsTrue}
use Rattle.std.specs.declared.cmp.Ordering.{Ordering}
use Rattle.std.specs.Ordering.{is_eq, is_lt, nat_cmp}
use Rattle.std.specs.Str.{is_utf8}
use Rattle.std.specs.List.{list_all, slice_split, join_with_byte, starts_with}
use Rattle.std.specs.Cmp.Lexicographic.{pointwise, slice_cmp}
use Rattle.depot_api.specs.Limits.{part_limit, path_limit}

-- neither a slash nor a NUL
abbrev pub is_part_byte : ℕ → Bool
is_part_byte b = not (b == 47 || b == 0)

-- the names that lead elsewhere
abbrev pub is_dots : List ℕ → Bool
is_dots text = pointwise nat_eq text (codes ".") || pointwise nat_eq text (codes "..")

-- one name of a path
abbrev pub is_part : List ℕ → Bool
is_part text =
    nat_le 1 (length text) && nat_le (length text) part_limit && list_all is_part_byte text && not (is_dots text)

abbrev pub IsPart : List ℕ → Type 0
IsPart text = IsTrue (is_part text)

-- the parts of a text, cut at each slash
abbrev pub parts_of : List ℕ → List (List ℕ)
parts_of text = slice_split (λ b. b == 47) text

-- the text of parts
abbrev pub path_text : List (List ℕ) → List ℕ
path_text parts = join_with_byte 47 parts

-- one part or more, at most 4,096 bytes of text
abbrev pub is_path : List (List ℕ) → Bool
is_path parts = nat_le 1 (length parts) && list_all is_part parts && nat_le (length (path_text parts)) path_limit

abbrev pub IsPath : List (List ℕ) → Type 0
IsPath parts = IsTrue (is_path parts)

-- whether bytes are the text of a path
abbrev pub is_path_text : List ℕ → Bool
is_path_text bytes = is_utf8 bytes && is_path (parts_of bytes)

-- the order of paths: by parts, and parts by bytes
abbrev pub path_cmp : List (List ℕ) → List (List ℕ) → Ordering
path_cmp = slice_cmp (slice_cmp nat_cmp)

abbrev pub is_at : List (List ℕ) → List (List ℕ) → Bool
is_at p q = is_eq (path_cmp p q)

abbrev pub is_below : List (List ℕ) → List (List ℕ) → Bool
is_below p q = is_lt (path_cmp p q)

-- the parts of p start with those of `under`; so a path begins with itself
abbrev pub begins_with : List (List ℕ) → List (List ℕ) → Bool
begins_with under p = starts_with (pointwise nat_eq) p under

-- the path that a text is, or that it is none
abbrev pub ReadsPath : List ℕ → Option (List (List ℕ)) → Type 0
ReadsPath text (Some path) = (path ≡ parts_of text) × IsPath path
ReadsPath text None = ¬ IsPath (parts_of text)
