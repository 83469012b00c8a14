-- Requests that change files are moves.
use Rattle.std.proofs.Common.{◌≡◌, ℕ, List, [], ◌∷◌, take, Bool, true, false, Option, Some, None, Result, Ok, Err, refl, sym, ap, ◌∙◌, inl, inr, ◌⊎◌}
use Rattle.depot_api.specs.Changes.{with_file, with_put}
use Rattle.depot_api.specs.Holdings.{Holding}
use Rattle.reg_claims.specs.Claims.{ClaimList}
use Rattle.reg_entries.specs.declared.reply.Reply.{Reply}
use Rattle.reg_entries.specs.declared.trouble.Trouble.{Trouble}
use Rattle.reg_model.specs.Changing.{Outcome}
use Rattle.reg_model.specs.Facts.{Facts}
use Rattle.files_service.specs.Changing.{Serves, with_change, with_changes, files_of_all}
use Rattle.files_service.specs.declared.change.FileChange.{FileChange}
use Rattle.files_service.specs.declared.change.FileChange.TheVariants as file
use Rattle.reg_world.specs.Worlds.{Data}
use Rattle.files_service.specs.Answers.{HasTrouble, HasFailed}
use Rattle.reg_names.specs.Cause.{HasCause}
use Rattle.reg_names.specs.declared.reference.Reference.{Reference}
use Rattle.manifest_doc.specs.declared.pushed.Pushed.{Pushed}
use Rattle.reg_entries.specs.declared.trouble.Trouble.TheVariants as troubles
use Rattle.reg_model.specs.Changing.{Drops, Pushes}
use Rattle.reg_world.specs.Moves.{Act, drops, pushes, ChangesBy, FitsAct, IsFaulty, Moves, seen_of}

abbrev pub data_of : Holding → ℕ → ClaimList → Data
data_of held faults claims = record { held = held; faults = faults; claims = claims }

changed : (Comes : Type 0 → Facts → Outcome → Type 0) (old new : Holding) (before now : ℕ) (claims : ClaimList) (result : Result Reply Trouble) → Serves Comes result old new
    → ChangesBy Comes (data_of old before claims) (seen_of result) (data_of new now claims)
changed Comes old new before now claims (Ok reply) made = (refl, made, refl)
changed Comes old new before now claims (Err trouble) made = (made, refl)

-- ---- changes of files leave what is told

change_tells : (change : FileChange) (held : Holding) → (with_change change held).tells ≡ held.tells
change_tells (file.Put at bytes) held = refl
change_tells (file.Remove at) held = refl

changes_tell : (changes : List FileChange) (held : Holding) → (with_changes changes held).tells ≡ held.tells
changes_tell [] held = refl
changes_tell (change ∷ changes) held = changes_tell changes (with_change change held) ∙ change_tells change held

told_as : (changes : List FileChange) (old new : Holding) → new ≡ with_changes changes old → new.tells ≡ old.tells
told_as changes old new is = ap (λ (h : Holding). h.tells) is ∙ changes_tell changes old

still_tells : (Comes : Type 0 → Facts → Outcome → Type 0) (old new : Holding) (result : Result Reply Trouble) → Serves Comes result old new → new.tells ≡ old.tells
still_tells Comes old new (Ok reply) (outcome, comes, is, made) = told_as (files_of_all outcome.changes) old new made
still_tells Comes old new (Err trouble) (inl same) = ap (λ (h : Holding). h.tells) same
still_tells Comes old new (Err trouble) (inr (outcome, comes, some, made)) = told_as (take some (files_of_all outcome.changes)) old new made

-- ---- a manifest that is pushed, and what a reference stands for that is removed

push_fits : (name : List ℕ) (at : Option Reference) (pushed : Pushed) (result : Result Reply Trouble) → HasTrouble result → FitsAct (pushes name at pushed) (seen_of result)
push_fits name at pushed (Ok reply) fits = tt
push_fits name at pushed (Err trouble) fits = fits

push_faulty : (name : List ℕ) (at : Option Reference) (pushed : Pushed) (result : Result Reply Trouble) → IsFaulty (pushes name at pushed) (seen_of result) → HasFailed result
push_faulty name at pushed (Ok reply) faulty = absurd faulty
push_faulty name at pushed (Err troubles.Depot) faulty = refl
push_faulty name at pushed (Err troubles.Keeper) faulty = absurd faulty
push_faulty name at pushed (Err troubles.Full) faulty = absurd faulty
push_faulty name at pushed (Err troubles.NoMemory) faulty = absurd faulty

push_cause : (name : List ℕ) (at : Option Reference) (pushed : Pushed) (before now : ℕ) (result : Result Reply Trouble) → HasCause before now (HasFailed result)
    → HasCause before now (IsFaulty (pushes name at pushed) (seen_of result))
push_cause name at pushed before now result cause = record { later = cause.later; rose = λ faulty. cause.rose (push_faulty name at pushed result faulty) }

drop_fits : (name : List ℕ) (at : Option Reference) (result : Result Reply Trouble) → HasTrouble result → FitsAct (drops name at) (seen_of result)
drop_fits name at (Ok reply) fits = tt
drop_fits name at (Err trouble) fits = fits

drop_faulty : (name : List ℕ) (at : Option Reference) (result : Result Reply Trouble) → IsFaulty (drops name at) (seen_of result) → HasFailed result
drop_faulty name at (Ok reply) faulty = absurd faulty
drop_faulty name at (Err troubles.Depot) faulty = refl
drop_faulty name at (Err troubles.Keeper) faulty = absurd faulty
drop_faulty name at (Err troubles.Full) faulty = absurd faulty
drop_faulty name at (Err troubles.NoMemory) faulty = absurd faulty

drop_cause : (name : List ℕ) (at : Option Reference) (before now : ℕ) (result : Result Reply Trouble) → HasCause before now (HasFailed result)
    → HasCause before now (IsFaulty (drops name at) (seen_of result))
drop_cause name at before now result cause = record { later = cause.later; rose = λ faulty. cause.rose (drop_faulty name at result faulty) }

-- ---- the moves

module _ (old new : Holding) (before now : ℕ) (claims : ClaimList) (result : Result Reply Trouble) (fits : HasTrouble result) (cause : HasCause before now (HasFailed result)) where
  pub push_moves : (name : List ℕ) (at : Option Reference) (pushed : Pushed) → Serves (Pushes name at pushed) result old new
      → Moves (data_of old before claims) (pushes name at pushed) (seen_of result) (data_of new now claims)
  push_moves name at pushed made = record {
    tells = still_tells (Pushes name at pushed) old new result made;
    fits = push_fits name at pushed result fits;
    cause = push_cause name at pushed before now result cause;
    move = changed (Pushes name at pushed) old new before now claims result made;
  }

  pub drop_moves : (name : List ℕ) (at : Option Reference) → Serves (Drops name at) result old new
      → Moves (data_of old before claims) (drops name at) (seen_of result) (data_of new now claims)
  drop_moves name at made = record {
    tells = still_tells (Drops name at) old new result made;
    fits = drop_fits name at result fits;
    cause = drop_cause name at before now result cause;
    move = changed (Drops name at) old new before now claims result made;
  }
