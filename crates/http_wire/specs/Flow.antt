-- The bytes of a stream that have come and were not read yet, and how many have come in all.
use Rattle.std.specs.Prelude.{◌≡◌, ℕ, ◌+◌, ◌*◌, ◌-◌, ◌<◌, ◌≤◌, List, length, Option, Some, None, ⊤}
use Rattle.std.specs.Io.KnownBytes.{prepend_known}
use Rattle.depot_api.specs.Limits.{given_limit}
use Rattle.http_wire.specs.Limits.{feed_limit, head_limit}

-- the bytes that wait, and how many were taken from the source since the start
pub record Flow : Type 0 where
  pub pending : List ℕ
  pub taken : ℕ

-- how many bytes the readers have had
abbrev pub spent : Flow → ℕ
spent flow = flow.taken - length flow.pending

-- no more bytes wait than were taken, and not many more than `feed_limit` were
abbrev pub IsBounded : Flow → Type 0
IsBounded flow = (length flow.pending ≤ flow.taken) × (flow.taken < feed_limit + 2 * head_limit)

-- the bytes to come: those that wait, and then what the source has left, where it tells that
abbrev pub stream : Flow → Option (List ℕ) → Option (List ℕ)
stream flow left = prepend_known flow.pending left

-- the bytes of a stream before and after a call, where the source tells them
abbrev pub OnStream : Option (List ℕ) → Option (List ℕ) → (List ℕ → List ℕ → Type 0) → Type 0
OnStream None new P = ⊤
OnStream (Some old) None P = ⊥
OnStream (Some old) (Some new) P = P old new

-- the bytes taken are those that the source has given, as long as it counts them
pub record Counts (before : Flow) (given : ℕ) (after : Flow) (given_now : ℕ) : Type 0 where
  pub as_given : given_now < given_limit → after.taken + given ≡ before.taken + given_now
  pub grows : given_now < given_limit → given ≤ given_now
