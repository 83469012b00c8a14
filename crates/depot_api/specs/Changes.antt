-- What a call that changes makes of what a depot holds, by cases on its answer.
use Rattle.std.specs.Prelude.{◌≡◌, ◌⊎◌, ℕ, ◌≤◌, Bool, true, false, cond, List, [], length, Option, Some, None, Result, Ok, Err, IsTrue, IsErrOf, ⊤}
use Rattle.std.specs.Option.{option_map_or}
use Rattle.reg_names.specs.Cause.{HasCause}
use Rattle.reg_names.specs.declared.refused.Refused.{Refused}
use Rattle.reg_names.specs.declared.refused.Refused.TheVariants.{Failed, NoMemory}
use Rattle.depot_api.specs.declared.depot.Unplaced.{Unplaced}
use Rattle.depot_api.specs.declared.depot.Unplaced.TheVariants as unplaced
use Rattle.depot_api.specs.Files.{Files, with_at}
use Rattle.depot_api.specs.Holdings.{Holding}
use Rattle.depot_api.specs.Limits.{file_limit}
use Rattle.depot_api.specs.Paths.{is_at}
use Rattle.depot_api.specs.Stages.{Staged, CountsStaged}

-- what is held, with w at p among the files, where these are told
abbrev pub with_file : Holding → List (List ℕ) → Option (List ℕ) → Holding
with_file held p w = record held { files = cond held.tells (with_at held.files p w) held.files }

-- what is held, with p lent, or not lent
abbrev pub with_loan : Holding → List (List ℕ) → Bool → Holding
with_loan held p loan = record held { lent = λ q. cond (is_at p q) loan (held.lent q) }

-- what is held, with a file put at p, where no loan outlasts it
abbrev pub with_put : Holding → List (List ℕ) → List ℕ → Holding
with_put held p bytes = with_loan (with_file held p (Some bytes)) p false

-- what is held, with the file at p lent, and so absent
abbrev pub with_lent : Holding → List (List ℕ) → Holding
with_lent held p = with_loan (with_file held p None) p true

-- the bytes at a path, and these others where there is no file
abbrev pub bytes_or : List ℕ → Files → List (List ℕ) → List ℕ
bytes_or others files at = option_map_or (λ bytes. bytes) (files at) others

-- what is held, with staged bytes put back at their path, where that is still lent
abbrev pub with_shelved : Holding → Staged → Holding
with_shelved held staged = cond (held.lent staged.path) (with_put held staged.path staged.bytes) held

-- what is held, with the loan of staged bytes ended and the bytes at `to`, where what stands there already is kept
abbrev pub with_placed : Holding → Staged → List (List ℕ) → Holding
with_placed held staged to = with_put (with_loan held staged.path false) to (bytes_or staged.bytes held.files to)

-- what was asked was made; it was made or not, where the call failed; and it was not made for want of memory
abbrev pub Makes : {A : Type 0} → Holding → Result A Refused → Holding → Holding → Type 0
Makes asked (Ok done) before now = now ≡ asked
Makes asked (Err Failed) before now = (now ≡ before) ⊎ (now ≡ asked)
Makes asked (Err NoMemory) before now = now ≡ before

-- a file was put at a path
abbrev pub Puts : {A : Type 0} → List (List ℕ) → List ℕ → Result A Refused → Holding → Holding → Type 0
Puts at bytes result before now = Makes (with_put before at bytes) result before now

-- the file at a path, where there was one, was removed
abbrev pub Removes : {A : Type 0} → List (List ℕ) → Result A Refused → Holding → Holding → Type 0
Removes at result before now = Makes (with_file before at None) result before now

-- the path was lent, none where it was lent before, and nothing changed where it was not lent now
abbrev pub Lends : {A E : Type 0} → List (List ℕ) → Result (Option A) E → Holding → Holding → Type 0
Lends at (Ok (Some stage)) before now = (before.lent at ≡ false) × (now ≡ with_lent before at)
Lends at (Ok None) before now = (before.lent at ≡ true) × (now ≡ before)
Lends at (Err refused) before now = now ≡ before

-- staged bytes were put back
abbrev pub Shelves : Staged → Holding → Holding → Type 0
Shelves staged before now = now ≡ with_shelved before staged

-- staged bytes were placed; where that failed they were placed or put back, and nothing changed for want of memory
abbrev pub Places : {A S : Type 0} → Staged → List (List ℕ) → Result A (Unplaced S) → Holding → Holding → Type 0
Places staged to (Ok size) before now = now ≡ with_placed before staged to
Places staged to (Err unplaced.Failed) before now =
    (now ≡ with_shelved before staged) ⊎ (now ≡ with_placed before staged to)
Places staged to (Err (unplaced.NoMemory stage)) before now = now ≡ before

-- this holds of the stage that came back for want of memory
abbrev pub IfBack : {A S : Type 0} → Result A (Unplaced S) → (S → Type 0) → Type 0
IfBack (Ok size) Holds = ⊤
IfBack (Err unplaced.Failed) Holds = ⊤
IfBack (Err (unplaced.NoMemory stage)) Holds = Holds stage

-- a placing failed in the depot
abbrev pub HasFailedToPlace : {A S : Type 0} → Result A (Unplaced S) → Type 0
HasFailedToPlace result = IsErrOf result unplaced.Failed

-- the size of what stands at a path, once staged bytes were placed there
abbrev pub IsStanding : Staged → List (List ℕ) → Files → ℕ → Type 0
IsStanding staged to files size = size ≡ length (bytes_or staged.bytes files to)

-- what is staged of a file that was lent: its bytes, or none where there was no file
pub record IsLentOf (before : Holding) (at : List (List ℕ)) (staged : Staged) : Type 0 where
  pub path : staged.path ≡ at
  pub tells : staged.tells ≡ before.tells
  pub most : staged.count ≤ file_limit
  pub counts : CountsStaged staged
  pub bytes : IsTrue before.tells → staged.bytes ≡ bytes_or [] before.files at

-- what is told, the file at q and whether q is lent are as before
pub record StaysAt (q : List (List ℕ)) (before now : Holding) : Type 0 where
  pub tells : now.tells ≡ before.tells
  pub file : now.files q ≡ before.files q
  pub loan : now.lent q ≡ before.lent q

-- where the files are told, no path that is lent has one
abbrev pub HidesLoans : Holding → Type 0
HidesLoans held = IsTrue held.tells → (q : List (List ℕ)) → IsTrue (held.lent q) → held.files q ≡ None

-- a call that changes: what was made of what is held, and a fault is told only where the depot's count rose
pub record Changes {D : Type 0} (held : D → Holding) (faults : D → ℕ) (old new : D)
    (Made : Holding → Holding → Type 0) (told : Type 0) : Type 0 where
  pub made : Made (held old) (held new)
  pub cause : HasCause (faults old) (faults new) told
