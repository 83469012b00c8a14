-- Changes that are made one after the other.
use Rattle.std.proofs.Common.{◌≡◌, ℕ, zero, suc, ◌+◌, ◌<◌, ◌≤◌, List, [], ◌∷◌, length, take, get_or, Result, Ok, Err, refl, sym, ap, subst, ◌∙◌, ◌⊎◌, inl, inr, add-one, arith}
use Rattle.reg_names.specs.Cause.{Rose}
use Rattle.reg_names.specs.Refusals.{HasFailed}
use Rattle.reg_names.specs.declared.refused.Refused.{Refused}
use Rattle.reg_names.specs.declared.refused.Refused.TheVariants as refusals
use Rattle.depot_api.specs.Changes.{Changes, Makes}
use Rattle.depot_api.specs.Holdings.{Holding}
use Rattle.files_service.specs.Changing.{with_change, with_changes, MakesAll}
use Rattle.files_service.specs.declared.change.FileChange.{FileChange}

-- ---- causes

pub rose_from : (before mid now : ℕ) → before ≤ mid → Rose mid now → Rose before now
rose_from before mid now h k = omega (arith, h, k)

-- ---- what is held

more : (changes : List FileChange) (k : ℕ) (d : FileChange) (before : Holding) → k < length changes → with_changes (take (suc k) changes) before ≡ with_change (get_or changes k d) (with_changes (take k changes) before)
more [] k d before within = absurd (omega (arith, within))
more (c ∷ cs) zero d before within = refl
more (c ∷ cs) (suc k) d before within = more cs k d (with_change c before) (omega (arith, within))

-- with one more of some changes
pub one_more : (changes : List FileChange) (k : ℕ) (change : FileChange) (before : Holding) → k < length changes → change ≡ get_or changes k change → with_change change (with_changes (take k changes) before) ≡ with_changes (take (k + 1) changes) before
one_more changes k change before within is =
    ap (λ c. with_change c (with_changes (take k changes) before)) is
    ∙ sym (more changes k change before within) ∙ ap (λ n. with_changes (take n changes) before) (sym (add-one k))

-- as many of the first were made
abbrev pub MakesSome : List FileChange → ℕ → Holding → Holding → Type 0
MakesSome changes k before now = now ≡ with_changes (take k changes) before

-- one more of them failed: it was made, or it was not
failed_in : (changes : List FileChange) (k : ℕ) (change : FileChange) (before mid now : Holding) → k < length changes → change ≡ get_or changes k change → MakesSome changes k before mid → (now ≡ mid) ⊎ (now ≡ with_change change mid) → (some : ℕ) × (now ≡ with_changes (take some changes) before)
failed_in changes k change before mid now within is some (inl same) = (k, same ∙ some)
failed_in changes k change before mid now within is some (inr made) =
    (k + 1, made ∙ ap (with_change change) some ∙ one_more changes k change before within is)

made_or_not : {A : Type 0} (asked before now : Holding) (result : Result A Refused) (e : Refused) → result ≡ Err e → Makes asked result before now → (now ≡ before) ⊎ (now ≡ asked)
made_or_not {A} asked before now result refusals.Failed err h =
    subst (λ (r : Result A Refused). Makes asked r before now) err h
made_or_not {A} asked before now result refusals.NoMemory err h =
    inl (subst (λ (r : Result A Refused). Makes asked r before now) err h)

made_so : {A : Type 0} (asked before now : Holding) (result : Result A Refused) (done : A) → result ≡ Ok done → Makes asked result before now → now ≡ asked
made_so {A} asked before now result done ok h = subst (λ (r : Result A Refused). Makes asked r before now) ok h

-- the depot failed in the last of two calls, where it is told that it failed
same_told : {A B : Type 0} (one : Result A Refused) (two : Result B Refused) (e : Refused) → one ≡ Err e → two ≡ Err e → HasFailed two → HasFailed one
same_told {A} {B} one two e is also h = is ∙ ap Err (cc (also, h))

first_or_not : (first : FileChange) (rest : List FileChange) (before now : Holding) → (now ≡ before) ⊎ (now ≡ with_change first before) → (some : ℕ) × (now ≡ with_changes (take some (first ∷ rest)) before)
first_or_not first rest before now (inl same) = (0, same)
first_or_not first rest before now (inr made) = (1, made)

-- ---- calls

module _ {D : Type 0} (held : D → Holding) (faults : D → ℕ) (changes : List FileChange) where
  abbrev pub MadeSome : ℕ → D → D → Type 0
  MadeSome k old new = Changes held faults old new (MakesSome changes k) ⊥

  -- a call that makes a change
  abbrev pub Call : {A : Type 0} → FileChange → D → D → Result A Refused → Type 0
  Call change mid new result =
      Changes held faults mid new (λ before now. Makes (with_change change before) result before now) (HasFailed result)

  pub made_more : {A : Type 0} (k : ℕ) (change : FileChange) (old mid new : D) (result : Result A Refused) (done : A) → k < length changes → change ≡ get_or changes k change → MadeSome k old mid → result ≡ Ok done → Call change mid new result → MadeSome (k + 1) old new
  made_more {A} k change old mid new result done within is some ok call = record {
    made = made_so (with_change change (held mid)) (held mid) (held new) result done ok call.made ∙ ap (with_change change) some.made ∙ one_more changes k change (held old) within is;
    cause = record { later = omega (arith, some.cause.later, call.cause.later); rose = λ b. absurd b };
  }

  pub failed_at : {A B : Type 0} (k : ℕ) (change : FileChange) (old mid new : D) (result : Result A Refused) (e : Refused) (final : Result B Refused) → k < length changes → change ≡ get_or changes k change → MadeSome k old mid → result ≡ Err e → final ≡ Err e → Call change mid new result → Changes held faults old new (MakesAll changes final) (HasFailed final)
  failed_at {A} {B} k change old mid new result e final within is some err is_final call =
      let some_made = failed_in changes k change (held old) (held mid) (held new) within is some.made (made_or_not (with_change change (held mid)) (held mid) (held new) result e err call.made) in
      record {
        made = subst (λ (r : Result B Refused). MakesAll changes r (held old) (held new)) (sym is_final) some_made;
        cause = record {
          later = omega (arith, some.cause.later, call.cause.later);
          rose = λ t. rose_from (faults old) (faults mid) (faults new) some.cause.later (call.cause.rose (same_told result final e err is_final t));
        };
      }

  -- ---- a change, and others behind it

  pub first_failed : {A B : Type 0} (first : FileChange) (rest : List FileChange) → changes ≡ first ∷ rest → (old new : D) (result : Result A Refused) (e : Refused) (final : Result B Refused) → result ≡ Err e → final ≡ Err e → Call first old new result → Changes held faults old new (MakesAll changes final) (HasFailed final)
  first_failed {A} {B} first rest is old new result e final err is_final call =
      let some : (some : ℕ) × (held new ≡ with_changes (take some (first ∷ rest)) (held old)) =
      first_or_not first rest (held old) (held new) (made_or_not (with_change first (held old)) (held old) (held new) result e err call.made) in
      record {
        made = subst (λ (cs : List FileChange). MakesAll cs final (held old) (held new)) (sym is) (subst (λ (r : Result B Refused). MakesAll (first ∷ rest) r (held old) (held new)) (sym is_final) some);
        cause = record { later = call.cause.later; rose = λ t. call.cause.rose (same_told result final e err is_final t) };
      }

  pub rest_failed : {A B C : Type 0} (first : FileChange) (rest : List FileChange) → changes ≡ first ∷ rest → (old mid new : D) (result : Result A Refused) (done : A) (second : Result B Refused) (e : Refused) (final : Result C Refused) → result ≡ Ok done → second ≡ Err e → final ≡ Err e → Call first old mid result → Changes held faults mid new (MakesAll rest second) (HasFailed second) → Changes held faults old new (MakesAll changes final) (HasFailed final)
  rest_failed {A} {B} {C} first rest is old mid new result done second e final ok err is_final call last =
      let some : (some : ℕ) × (held new ≡ with_changes (take some rest) (held mid)) = subst (λ (r : Result B Refused). MakesAll rest r (held mid) (held new)) err last.made in
      let at_first : held mid ≡ with_change first (held old) = made_so (with_change first (held old)) (held old) (held mid) result done ok call.made in
      let all : (some : ℕ) × (held new ≡ with_changes (take some (first ∷ rest)) (held old)) = (suc some.0, some.1 ∙ ap (with_changes (take some.0 rest)) at_first) in
      record {
        made = subst (λ (cs : List FileChange). MakesAll cs final (held old) (held new)) (sym is) (subst (λ (r : Result C Refused). MakesAll (first ∷ rest) r (held old) (held new)) (sym is_final) all);
        cause = record {
          later = omega (arith, call.cause.later, last.cause.later);
          rose = λ t. rose_from (faults old) (faults mid) (faults new) call.cause.later (last.cause.rose (same_told second final e err is_final t));
        };
      }
