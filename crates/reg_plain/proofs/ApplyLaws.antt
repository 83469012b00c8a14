-- What an entry leaves, by what it changes.
use Rattle.std.proofs.Common.{◌≡◌, ℕ, ◌+◌, Bool, true, false, [], ◌∷◌, ◌++◌, refl, sym, ap, ◌∙◌, length-append}
use Rattle.std.specs.Prelude.{◌||◌, Result, OnOk}
use Rattle.std.proofs.lemmas.List.Folds.{list_any-append}
use Rattle.std.proofs.lemmas.Result.{on_ok_weaker}
use Rattle.reg_names.specs.declared.refused.NoMemory.{NoMemory}
use Rattle.reg_journal.specs.declared.entry.Entry.{Entry}
use Rattle.reg_journal.specs.declared.entry.What.{What}
use Rattle.reg_journal.specs.Kinds.{is_opening}
use Rattle.reg_journal.specs.Past.{Past, next_number}
use Rattle.reg_journal.specs.Changes.{apply}
use Rattle.reg_plain.specs.declared.state.State.{State}
use Rattle.reg_plain.specs.Held.{IsLeftOf, held}
use Rattle.reg_plain.specs.InnerChanges.{IsMoved, left_by, staying}

-- the same is left where the same is held
pub same_left : (past : Past) (old new : State) → IsMoved staying old new → IsLeftOf past old → IsLeftOf past new
same_left past old new m h = record {
  is = h.is ∙ sym (m.is past.entries);
  last = h.last ∙ sym m.last;
  opened = h.opened ∙ sym m.opened;
}

or_none : (a b : Bool) → (a || (b || false)) ≡ (a || b)
or_none true b = refl
or_none false true = refl
or_none false false = refl

-- an entry is counted when its change is made
pub one_more_left : (past : Past) (entry : Entry) (old mid : State) → IsMoved (left_by (old.last + 1) entry.moment entry.what) old mid → IsLeftOf past old
    → IsLeftOf (apply past entry) (record mid { last = old.last + 1; opened = mid.opened || is_opening entry.what })
one_more_left past entry old mid m h =
    let all = past.entries ++ entry ∷ [] in
    record {
      is = (λ i. record (left_by (next_number (h.is i)) entry.moment entry.what (h.is i)) { entries = all })
          ∙ (λ i. record (left_by (h.last i + 1) entry.moment entry.what (held past.entries old)) { entries = all })
          ∙ (λ i. record (sym (m.is past.entries) i) { entries = all });
      last = length-append past.entries (entry ∷ []) ∙ ap (λ n. n + 1) h.last;
      opened = list_any-append (λ (e : Entry). is_opening e.what) past.entries (entry ∷ [])
          ∙ (λ i. h.opened i || (is_opening entry.what || false))
          ∙ or_none old.opened (is_opening entry.what)
          ∙ ap (λ b. b || is_opening entry.what) (sym m.opened);
    }

-- what is told of a kind is told of the entry that has it
pub moved_by : (number now : ℕ) (what kind : What) (old new : State) → what ≡ kind → IsMoved (left_by number now kind) old new → IsMoved (left_by number now what) old new
moved_by number now what kind old new is m = record {
  is = λ entries. m.is entries ∙ ap (λ w. left_by number now w (held entries old)) (sym is);
  delay = m.delay;
  last = m.last;
  opened = m.opened;
}

pub told : {A : Type 0} (r : Result A NoMemory) (number now : ℕ) (what kind : What) (old new : State) → what ≡ kind → OnOk r (IsMoved (left_by number now kind) old new) → OnOk r (IsMoved (left_by number now what) old new)
told r number now what kind old new is h = on_ok_weaker r (moved_by number now what kind old new is) h
