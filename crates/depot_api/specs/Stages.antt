-- What a stage holds, and what an append to it and a read of it do.
use Rattle.std.specs.Prelude.{◌≡◌, ℕ, ◌+◌, ◌-◌, ◌<◌, ◌≤◌, Bool, List, ◌++◌, length, take, drop, IsTrue, Result, Ok, Err}
use Rattle.reg_names.specs.declared.refused.Refused.{Refused}
use Rattle.reg_names.specs.declared.refused.Refused.TheVariants.{Failed, NoMemory}

-- the path that it was lent from, whether it tells its bytes, how many are staged, and which
pub record Staged : Type 0 where
  pub path : List (List ℕ)
  pub tells : Bool
  pub count : ℕ
  pub bytes : List ℕ

-- the count is that of the bytes, where they are told
abbrev pub CountsStaged : Staged → Type 0
CountsStaged staged = IsTrue staged.tells → staged.count ≡ length staged.bytes

-- an append made the stage longer by the piece, by no more than that where it failed, and not at all without memory
abbrev pub Grew : {A : Type 0} → List ℕ → Staged → Staged → Result A Refused → Type 0
Grew piece before now (Ok done) = now.count ≡ before.count + length piece
Grew piece before now (Err Failed) = (before.count ≤ now.count) × (now.count ≤ before.count + length piece)
Grew piece before now (Err NoMemory) = now.count ≡ before.count

-- it put the piece behind the staged bytes, a front of the piece where it failed, and nothing without memory
abbrev pub PutsBehind : {A : Type 0} → List ℕ → List ℕ → List ℕ → Result A Refused → Type 0
PutsBehind piece before now (Ok done) = now ≡ before ++ piece
PutsBehind piece before now (Err Failed) = (some : ℕ) × (now ≡ before ++ take some piece)
PutsBehind piece before now (Err NoMemory) = now ≡ before

-- it did so, where the stage tells its bytes
abbrev pub Appended : {A : Type 0} → List ℕ → Staged → Staged → Result A Refused → Type 0
Appended piece before now result = IsTrue before.tells → PutsBehind piece before.bytes now.bytes result

-- a read gave no more than fits into the buffer and is staged from there on, and one byte at least where both are there
abbrev pub ReadsUpTo : {E : Type 0} → ℕ → ℕ → ℕ → Result ℕ E → Type 0
ReadsUpTo size at staged (Ok n) = (n ≤ size) × (n ≤ staged - at) × (0 < size → at < staged → 0 < n)
ReadsUpTo size at staged (Err e) = Unit {0}

-- it put the bytes from there on into the front of the buffer, and left the others
abbrev pub GivesFrom : {E : Type 0} → ℕ → List ℕ → List ℕ → List ℕ → Result ℕ E → Type 0
GivesFrom at staged buffer filled (Ok n) = filled ≡ take n (drop at staged) ++ drop n buffer
GivesFrom at staged buffer filled (Err e) = Unit {0}

-- it did so, where the stage tells its bytes
abbrev pub ReadsFrom : {E : Type 0} → ℕ → Staged → List ℕ → List ℕ → Result ℕ E → Type 0
ReadsFrom at staged buffer filled result = IsTrue staged.tells → GivesFrom at staged.bytes buffer filled result
