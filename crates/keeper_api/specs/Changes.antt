-- What a commit makes of rows.
use Rattle.std.specs.Prelude.{◌≡◌, ℕ, cond, List, [], ◌∷◌, Some, None, Result, Ok, Err, ⊤}
use Rattle.reg_names.specs.Cause.{HasCause}
use Rattle.reg_names.specs.declared.refused.Refused.{Refused}
use Rattle.keeper_api.specs.declared.change.Change.{Change}
use Rattle.keeper_api.specs.declared.change.Change.TheVariants as change
use Rattle.keeper_api.specs.Rows.{Rows, Kept, with_row}
use Rattle.keeper_api.specs.Tables.{Fits}

-- the rows after a change, and after changes in their order
abbrev pub after_one : Rows → Change → Rows
after_one rows (change.Put key row) = with_row rows key (Some row)
after_one rows (change.Drop key) = with_row rows key None

abbrev pub after : Rows → List Change → Rows
after rows [] = rows
after rows (c ∷ cs) = after (after_one rows c) cs

-- what is kept after changes, where it is told
abbrev pub with_changes : Kept → List Change → Kept
with_changes kept changes = record kept { rows = cond kept.tells (after kept.rows changes) kept.rows }

-- each row that is put may stand at its key
abbrev pub ArePutsFit : List Change → Type 0
ArePutsFit [] = ⊤
ArePutsFit (change.Put key row ∷ cs) = Fits key row × ArePutsFit cs
ArePutsFit (change.Drop key ∷ cs) = ArePutsFit cs

-- all changes were made, or, where the commit was refused, none
abbrev pub Commits : {A : Type 0} → List Change → Result A Refused → Kept → Kept → Type 0
Commits changes (Ok made) before now = now ≡ with_changes before changes
Commits changes (Err refused) before now = now ≡ before

-- a call that changes: what was made of what is kept, and a fault is told only where the keeper's count rose
pub record Changes {K : Type 0} (kept : K → Kept) (faults : K → ℕ) (old new : K) (Made : Kept → Kept → Type 0)
    (told : Type 0) : Type 0 where
  pub made : Made (kept old) (kept new)
  pub cause : HasCause (faults old) (faults new) told
