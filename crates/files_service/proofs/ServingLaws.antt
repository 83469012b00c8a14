-- A request is served: it comes to an outcome by what the files mean, and what that changes is made.
use Rattle.std.proofs.Common.{◌≡◌, ℕ, ◌≤◌, Bool, true, false, List, take, Result, Ok, Err, refl, sym, ap, subst, ◌∙◌, inl, inr, true≢false, arith}
use Rattle.std.specs.Prelude.{IsTrue, IfOk}
use Rattle.reg_names.specs.Cause.{OnlyReads}
use Rattle.reg_names.specs.Refusals.{HasFailed}
use Rattle.reg_names.specs.declared.refused.Refused.{Refused}
use Rattle.depot_api.specs.Changes.{Changes}
use Rattle.depot_api.specs.Files.{Files}
use Rattle.depot_api.specs.Holdings.{Holding, Finds}
use Rattle.link_reading.specs.Meaning.{Means}
use Rattle.reg_entries.specs.State.{State}
use Rattle.reg_entries.specs.declared.reply.Reply.{Reply}
use Rattle.reg_model.specs.Answers.{LacksIn}
use Rattle.reg_model.specs.Changing.{Outcome, refuses, Lacks}
use Rattle.reg_model.specs.Facts.{Facts}
use Rattle.reg_model.specs.Fits.{IsLacking}
use Rattle.files_service.specs.Facts.{facts_of}
use Rattle.files_service.specs.Changing.{with_changes, MakesAll, files_of_all, Makes, Serves}
use Rattle.files_service.specs.declared.change.FileChange.{FileChange}
use Rattle.files_service.proofs.ChangeLaws.{rose_from}

-- ---- what was looked up

-- what a call tells of files that are as they were
pub told_of : {A E : Type 0} (old mid : Holding) (Fits : State → A → Type 0) (result : Result A E) (a : A) → mid ≡ old → result ≡ Ok a → Finds mid result (λ files. Fits (Means files)) → IsTrue old.tells → Fits (Means old.files) a
told_of {A} {E} old mid Fits result a same ok finds tells =
    subst (λ (r : Result A E). IfOk r (Fits (Means old.files))) ok (subst (λ (h : Holding). IsTrue h.tells → IfOk result (Fits (Means h.files))) same finds tells)

pub found_of : {A E : Type 0} (old : Holding) (Fits : Files → A → Type 0) (result : Result A E) (a : A) → result ≡ Ok a → Finds old result Fits → IsTrue old.tells → Fits old.files a
found_of {A} {E} old Fits result a ok finds tells = subst (λ (r : Result A E). IfOk r (Fits old.files)) ok (finds tells)

lacks_so : (tells : Bool) (state : State) (name : List ℕ) (number : ℕ) (reply : Reply) → (IsTrue tells → LacksIn state name number reply) → IsLacking number reply → Lacks (IsTrue tells) state name number (refuses reply)
lacks_so true state name number reply is fits = let h = is refl in (h.0, (λ t. h.1), ap refuses h.2)
lacks_so false state name number reply is fits = (fits.0, (λ t. absurd (true≢false (sym t))), ap refuses fits.1)

-- ---- what is made

made_of : {E : Type 0} (Comes : Outcome → Type 0) (outcome : Outcome) (files : List FileChange) (result : Result Reply E) (before now : Holding) → files ≡ files_of_all outcome.changes → IfOk result (λ reply. reply ≡ outcome.reply) → MakesAll files result before now → Comes outcome → Makes Comes result before now
made_of Comes outcome files (Ok reply) before now e same all comes =
    (outcome, comes, same, all ∙ ap (λ (fs : List FileChange). with_changes fs before) e)
made_of Comes outcome files (Err trouble) before now e same all comes =
    inr (outcome, comes, all.0, all.1 ∙ ap (λ (fs : List FileChange). with_changes (take all.0 fs) before) e)

module _ {D : Type 0} (held : D → Holding) (faults : D → ℕ) (Comes : Type 0 → Facts → Outcome → Type 0) where
  abbrev pub ComesAt : D → Outcome → Type 0
  ComesAt d outcome = Comes (IsTrue (held d).tells) (facts_of (held d)) outcome

  pub refused : (old new : D) (reply : Reply) → held new ≡ held old → faults old ≤ faults new → ComesAt old (refuses reply) → Changes held faults old new (Serves {E = Refused} Comes (Ok reply)) (HasFailed {A = Reply} (Ok reply))
  refused old new reply same later comes = record {
    made = (refuses reply, comes, refl, same);
    cause = record { later = later; rose = λ t. absurd (cc t) };
  }

  pub lacked : (old mid new : D) (name : List ℕ) (number : ℕ) (result : Result Reply Refused) → held mid ≡ held old → faults old ≤ faults mid → Finds (held mid) result (λ files. LacksIn (Means files) name number) → IfOk result (IsLacking number) → OnlyReads held faults mid new (HasFailed result)
      → ((outcome : Outcome) → Lacks (IsTrue (held old).tells) (Means (held old).files) name number outcome → ComesAt old outcome) → Changes held faults old new (Serves Comes result) (HasFailed result)
  lacked old mid new name number result same later finds fits reads comes = record {
    made = by result (subst (λ (h : Holding). Finds h result (λ files. LacksIn (Means files) name number)) same finds) fits;
    cause = record {
      later = omega (arith, later, reads.cause.later);
      rose = λ t. rose_from (faults old) (faults mid) (faults new) later (reads.cause.rose t);
    };
  }
    where
      by : (r : Result Reply Refused) → Finds (held old) r (λ files. LacksIn (Means files) name number) → IfOk r (IsLacking number) → Serves Comes r (held old) (held new)
      by (Ok reply) is fits =
          (refuses reply, comes (refuses reply) (lacks_so (held old).tells (Means (held old).files) name number reply is fits), refl, reads.held_stays ∙ same)
      by (Err e) is fits = inl (reads.held_stays ∙ same)

  pub served : (old mid new : D) (outcome : Outcome) (files : List FileChange) (result : Result Reply Refused) → held mid ≡ held old → faults old ≤ faults mid → files ≡ files_of_all outcome.changes → IfOk result (λ reply. reply ≡ outcome.reply) → ComesAt old outcome → Changes held faults mid new (MakesAll files result) (HasFailed result) → Changes held faults old new (Serves Comes result) (HasFailed result)
  served old mid new outcome files result same later e reply comes call = record {
    made = made_of (ComesAt old) outcome files result (held old) (held new) e reply (subst (λ (h : Holding). MakesAll files result h (held new)) same call.made) comes;
    cause = record {
      later = omega (arith, later, call.cause.later);
      rose = λ t. rose_from (faults old) (faults mid) (faults new) later (call.cause.rose t);
    };
  }

  pub passed_on : (Goes : Type 0 → Facts → Outcome → Type 0) (old mid new : D) (result : Result Reply Refused) → held mid ≡ held old → faults old ≤ faults mid → ((outcome : Outcome) → Goes (IsTrue (held old).tells) (facts_of (held old)) outcome → ComesAt old outcome) → Changes held faults mid new (Serves Goes result) (HasFailed result) → Changes held faults old new (Serves Comes result) (HasFailed result)
  passed_on Goes old mid new result same later comes call = record {
    made = by result (subst (λ (h : Holding). Serves Goes result h (held new)) same call.made);
    cause = record {
      later = omega (arith, later, call.cause.later);
      rose = λ t. rose_from (faults old) (faults mid) (faults new) later (call.cause.rose t);
    };
  }
    where
      by : (r : Result Reply Refused) → Serves Goes r (held old) (held new) → Serves Comes r (held old) (held new)
      by (Ok reply) h = (h.0, comes h.0 h.1, h.2, h.3)
      by (Err e) (inl same) = inl same
      by (Err e) (inr h) = inr (h.0, comes h.0 h.1, h.2, h.3)
