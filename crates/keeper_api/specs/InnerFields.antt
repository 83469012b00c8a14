-- The proof's own: no public clause cites what stands here.
-- How fields are passed over, from left to right: each leaves the bytes behind it.
use Rattle.std.specs.Prelude.{◌≡◌, ℕ, ◌+◌, ◌==◌, ◌&&◌, nat_le, nat_lt, take, drop, if◌then◌else◌, Bool, false, List, [], ◌∷◌, length, Option, Some, None, MatchBool, MatchOption}
use Rattle.std.specs.Option.{option_map_or}
use Rattle.std.specs.List.{position_or_len}
use Rattle.std.specs.Int.{w16, w32, w64}
use Rattle.reg_names.specs.Names.{is_name}
use Rattle.reg_names.specs.Tags.{is_tag}
use Rattle.reg_journal.specs.InnerReading.{◌>>=◌, byte_at, number_at, bytes_at, digest_at}
use Rattle.depot_api.specs.Paths.{is_path_text}
use Rattle.keeper_api.specs.declared.field.Field.{Field}
use Rattle.keeper_api.specs.declared.field.Field.TheVariants as field

-- what a call found is what reading gives, with what is left then
abbrev pub Gives : {X Y : Type 0} → (X → Y) → Option X → Option Y → Type 0
Gives view result read = MatchOption result (read ≡ None) (λ x. read ≡ Some (view x))

-- a call passed over a field
abbrev pub Passes : Bool → List ℕ → Option (List ℕ) → Type 0
Passes result left read = MatchBool result (read ≡ Some left) (read ≡ None)

-- what is behind something that was read, where it passes a test
abbrev pub rest_if : {A : Type 0} → (A → Bool) → Option (A × List ℕ) → Option (List ℕ)
rest_if test None = None
rest_if test (Some x) = if test x.0 then Some x.1 else None

abbrev pub rest_of : {A : Type 0} → Option (A × List ℕ) → Option (List ℕ)
rest_of None = None
rest_of (Some x) = Some x.1

-- as far as a zero byte
unfoldable pub ended_at : List ℕ → Option (List ℕ × List ℕ)
ended_at bytes =
    let end = position_or_len (λ b. b == 0) bytes in
    if nat_lt end (length bytes) then Some (take end bytes, drop (end + 1) bytes) else None

-- as many as two bytes count
unfoldable pub counted_at : List ℕ → Option (List ℕ × List ℕ)
counted_at bytes = number_at w16 bytes >>= λ count. bytes_at count.0 count.1

abbrev pub is_event : ℕ → Bool
is_event n = nat_le 1 n && nat_le n 18

abbrev pub is_kind : ℕ → Bool
is_kind n = nat_le 1 n && nat_le n 4

unfoldable pub strip : Field → List ℕ → Option (List ℕ)
strip (field.Byte b) bytes = rest_if (λ x. x == b) (byte_at bytes)
strip field.Number bytes = rest_of (number_at w64 bytes)
strip field.Positive bytes = rest_if (nat_le 1) (number_at w64 bytes)
strip field.One bytes = rest_if (λ n. n == 1) (number_at w64 bytes)
strip field.Count bytes = rest_of (number_at w32 bytes)
strip field.EndedName bytes = rest_if is_name (ended_at bytes)
strip field.EndedTag bytes = rest_if is_tag (ended_at bytes)
strip field.Digest bytes = rest_of (digest_at bytes)
strip field.Kind bytes = rest_if is_kind (byte_at bytes)
strip field.Free bytes = rest_if (λ n. nat_le n 1) (byte_at bytes)
strip field.Event bytes = rest_if is_event (byte_at bytes)
strip field.Table bytes = rest_of (byte_at bytes)
strip field.Path bytes = rest_if is_path_text (counted_at bytes)
strip field.Key bytes = rest_of (counted_at bytes)

-- whether the bytes are those of the fields, and no more
unfoldable pub are_fields : List Field → List ℕ → Bool
are_fields [] bytes = length bytes == 0
are_fields (f ∷ fs) bytes = option_map_or (are_fields fs) (strip f bytes) false
