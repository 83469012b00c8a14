-- What a Content-Type tells (RFC 9110, section 8.3): a media type, behind which parameters may stand.
use Rattle.std.specs.Prelude.{ℕ, Bool, true, ◌||◌, ◌==◌, nat_eq, if◌then◌else◌, List, [], ◌∷◌, map, reverse, Option, Some, None}
use Rattle.std.specs.List.{before_first}
use Rattle.std.specs.Char.{to_ascii_lowercase}
use Rattle.std.specs.Cmp.Lexicographic.{pointwise}
use Rattle.reg_names.specs.Kinds.{media_type_of}
use Rattle.reg_names.specs.declared.kind.Kind.{Kind}

-- a space or a tab (RFC 9110, section 5.6.3)
abbrev pub is_blank : ℕ → Bool
is_blank b = b == 32 || b == 9

-- a text without the blanks that it begins with
abbrev pub trim_start : List ℕ → List ℕ
trim_start [] = []
trim_start (b ∷ rest) = if is_blank b then trim_start rest else b ∷ rest

-- a text without the blanks that it ends with
abbrev pub trim_end : List ℕ → List ℕ
trim_end text = reverse (trim_start (reverse text))

-- the media type that a Content-Type tells: what stands before its first semicolon, without blanks at its ends
abbrev pub media_type_in : List ℕ → List ℕ
media_type_in typed = trim_end (trim_start (before_first (λ b. b == 59) typed))

-- equal without regard to ASCII case
abbrev pub is_same : List ℕ → List ℕ → Bool
is_same a b = pointwise nat_eq (map to_ascii_lowercase a) (map to_ascii_lowercase b)

-- a Content-Type may stand beside a document of that kind: it tells the kind's media type, or there is none
abbrev pub may_type : Option (List ℕ) → Kind → Bool
may_type None kind = true
may_type (Some typed) kind = is_same (media_type_in typed) (media_type_of kind)
