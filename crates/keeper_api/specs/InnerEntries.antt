-- The proof's own: no public clause cites what stands here.
-- How entries are passed over, from left to right: each field leaves the bytes behind it.
use Rattle.std.specs.Prelude.{ℕ, zero, suc, ◌==◌, if◌then◌else◌, Bool, true, false, List, [], ◌∷◌, length, Option, Some, None}
use Rattle.std.specs.Int.{w16, w64}
use Rattle.std.specs.Ordering.{nat_cmp, is_lt}
use Rattle.std.specs.Cmp.Lexicographic.{slice_cmp}
use Rattle.reg_names.specs.Names.{is_name}
use Rattle.reg_names.specs.Tags.{is_tag}
use Rattle.reg_journal.specs.InnerReading.{◌>>=◌, byte_at, number_at, text_at, digest_at}
use Rattle.keeper_api.specs.InnerFields.{rest_if, rest_of, strip}
use Rattle.keeper_api.specs.declared.field.Field.TheVariants as field

-- ---- lists

-- a digest may follow the last one, where there is one
abbrev pub is_behind : Option (List ℕ) → List ℕ → Bool
is_behind None digest = true
is_behind (Some last) digest = is_lt (slice_cmp nat_cmp last digest)

abbrev pub with_free : Bool → List ℕ × List ℕ → Option (List ℕ × List ℕ)
with_free true item = strip field.Free item.1 >>= λ rest. Some (item.0, rest)
with_free false item = Some item

-- a digest, with what tells whether it is free behind it, or without
unfoldable pub item_at : Bool → List ℕ → Option (List ℕ × List ℕ)
item_at free bytes = digest_at bytes >>= with_free free

-- so many of them, in order behind the last one
unfoldable pub items_passed : Bool → Option (List ℕ) → ℕ → List ℕ → Option (List ℕ)
items_passed free last zero bytes = Some bytes
items_passed free last (suc n) bytes =
    item_at free bytes
    >>= λ item. if is_behind last item.0 then items_passed free (Some item.0) n item.1 else None

unfoldable pub list_passed : Bool → List ℕ → Option (List ℕ)
list_passed free bytes = number_at w16 bytes >>= λ count. items_passed free None count.0 count.1

-- ---- fields together

unfoldable pub name_passed : List ℕ → Option (List ℕ)
name_passed bytes = rest_if is_name (text_at bytes)

unfoldable pub tag_passed : List ℕ → Option (List ℕ)
tag_passed bytes = rest_if is_tag (text_at bytes)

unfoldable pub spot_passed : List ℕ → Option (List ℕ)
spot_passed bytes = name_passed bytes >>= strip field.Digest

unfoldable pub tag_spot_passed : List ℕ → Option (List ℕ)
tag_spot_passed bytes = name_passed bytes >>= tag_passed

unfoldable pub document_passed : List ℕ → Option (List ℕ)
document_passed bytes =
    strip field.Kind bytes
    >>= λ size. strip field.Number size
    >>= λ named. list_passed true named
    >>= list_passed false

-- ---- entries

-- the number of each kind, and how its fields are passed over
unfoldable pub kinds : List (ℕ × (List ℕ → Option (List ℕ)))
kinds =
    (1, λ bytes. spot_passed bytes >>= document_passed)
    ∷ (2, λ bytes. tag_spot_passed bytes >>= strip field.Digest)
    ∷ (3, tag_spot_passed)
    ∷ (4, spot_passed)
    ∷ (5, strip field.Digest)
    ∷ (6, λ bytes. spot_passed bytes >>= strip field.Number)
    ∷ (7, spot_passed)
    ∷ (8, λ bytes. spot_passed bytes >>= document_passed)
    ∷ (9, λ bytes. spot_passed bytes >>= strip field.Number)
    ∷ (10, λ bytes. tag_spot_passed bytes >>= strip field.Digest)
    ∷ (11, spot_passed)
    ∷ (12, spot_passed)
    ∷ (13, λ bytes. Some bytes)
    ∷ (14, λ bytes. strip field.Digest bytes >>= strip field.Number)
    ∷ (15, spot_passed)
    ∷ (16, spot_passed)
    ∷ (17, strip field.Digest)
    ∷ (18, strip field.Digest)
    ∷ []

abbrev pub first_kind : ℕ → List (ℕ × (List ℕ → Option (List ℕ))) → List ℕ → Option (List ℕ)
first_kind n [] bytes = None
first_kind n (k ∷ ks) bytes = if n == k.0 then k.1 bytes else first_kind n ks bytes

unfoldable pub what_passed : ℕ → List ℕ → Option (List ℕ)
what_passed n bytes = first_kind n kinds bytes

-- nothing is left
abbrev pub is_at_end : Option (List ℕ) → Bool
is_at_end None = false
is_at_end (Some rest) = length rest == 0

unfoldable pub is_entry : List ℕ → Bool
is_entry bytes =
    is_at_end (byte_at bytes >>= λ number. rest_of (number_at w64 number.1) >>= what_passed number.0)
