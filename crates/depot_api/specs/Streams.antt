-- What a read and a write may answer.
use Rattle.std.specs.Prelude.{◌≡◌, ℕ, ◌+◌, ◌<◌, ◌≤◌, min, List, length, Result, Ok, Err}
use Rattle.depot_api.specs.Limits.{given_limit}

-- a count of bytes, as far as it goes
abbrev pub counted : ℕ → ℕ → ℕ
counted before more = min (before + more) given_limit

-- a read gave no more than fits into the buffer, and raised the count of bytes given by as many
abbrev pub GivesUpTo : {E : Type 0} → List ℕ → ℕ → ℕ → Result ℕ E → Type 0
GivesUpTo buffer before now (Ok n) = (n ≤ length buffer) × (now ≡ counted before n)
GivesUpTo buffer before now (Err e) = now ≡ before

-- a write took one byte at least of a piece that is not empty, and no more than there are
abbrev pub TakesSome : {E : Type 0} → List ℕ → Result ℕ E → Type 0
TakesSome piece (Ok n) = (n ≤ length piece) × (0 < length piece → 0 < n)
TakesSome piece (Err e) = Unit {0}
