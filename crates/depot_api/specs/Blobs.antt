-- What is left of a blob, and what a read of it gives.
use Rattle.std.specs.Prelude.{◌≡◌, ℕ, ◌+◌, ◌<◌, ◌≤◌, Bool, List, ◌++◌, length, take, drop, IsTrue, Result, Ok, Err}

-- whether the blob tells its bytes, how many are left to read, and which
pub record Rest : Type 0 where
  pub tells : Bool
  pub count : ℕ
  pub bytes : List ℕ

-- the count is that of the bytes, where they are told
abbrev pub CountsRest : Rest → Type 0
CountsRest rest = IsTrue rest.tells → rest.count ≡ length rest.bytes

-- a read gave no more than fits into the buffer and is left, one byte at least where there is both, and left the others
abbrev pub ReadsSome : {E : Type 0} → ℕ → Rest → Rest → Result ℕ E → Type 0
ReadsSome size before now (Ok n) = (n ≤ size) × (now.count + n ≡ before.count) × (0 < size → 0 < before.count → 0 < n)
ReadsSome size before now (Err e) = now.count ≡ before.count

-- a read put the next bytes into the front of the buffer and left the others; one that failed gave none
abbrev pub GivesNext : {E : Type 0} → List ℕ → List ℕ → List ℕ → List ℕ → Result ℕ E → Type 0
GivesNext buffer filled before now (Ok n) = (filled ≡ take n before ++ drop n buffer) × (now ≡ drop n before)
GivesNext buffer filled before now (Err e) = now ≡ before

-- it did so, where the blob tells its bytes
abbrev pub ReadsNext : {E : Type 0} → List ℕ → List ℕ → Rest → Rest → Result ℕ E → Type 0
ReadsNext buffer filled before now result = IsTrue before.tells → GivesNext buffer filled before.bytes now.bytes result
