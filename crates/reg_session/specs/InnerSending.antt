-- The proof's own: no public clause cites what stands here.
use Rattle.std.specs.Prelude.{◌≡◌, ℕ, ◌+◌, ◌<◌, ◌≤◌, List, ◌++◌, length, take, drop, IsTrue, Result, Ok, Err}
use Rattle.depot_api.specs.Blobs.{Rest}

-- a head and the first bytes of a blob stand at the front of a room, one of them at least where the blob has any
abbrev pub PutsFirst : {E : Type 0} → List ℕ → Rest → Rest → List ℕ → Result ℕ E → Type 0
PutsFirst head before now room (Ok n) =
    (piece : List ℕ) × (take n room ≡ head ++ piece) × (n ≡ length head + length piece) × (n ≤ length room)
    × (now.tells ≡ before.tells) × (now.count + length piece ≡ before.count)
    × (0 < before.count → 0 < length piece)
    × (IsTrue before.tells → (piece ≡ take (length piece) before.bytes)
    × (now.bytes ≡ drop (length piece) before.bytes))
PutsFirst head before now room (Err e) =
    (now.tells ≡ before.tells) × (now.count ≡ before.count) × (IsTrue before.tells → now.bytes ≡ before.bytes)
