use Rattle.std.proofs.Common.{◌≡◌, ◌+◌, sym, subst, ◌∙◌, rules}
use Rattle.std.specs.Prelude.{◌||◌}
use Rattle.std.proofs.lemmas.Result.{err_from_is_err_and}
use Rattle.reg_journal.specs.Kinds.{is_opening}
use Rattle.reg_journal.specs.Changes.{apply}
use Rattle.reg_plain.specs.Held.{IsLeftOf}
use Rattle.reg_plain.specs.InnerChanges.{IsMoved, left_by}
use Rattle.reg_plain.proofs.ApplyLaws.{same_left, one_more_left}
use Rattle.reg_plain.proofs.state.State.apply.Goals as goal

pub returns-in_err-change-clause-left : goal.returns-in_err-change-clause-left
returns-in_err-change-clause-left c = λ past h.
    let p = err_from_is_err_and c.from_residual-in_err-change.result c.from_residual-in_err-change.ensures.1 in
    rw p.1 (same_left past c.args.self.now c.change.new.self c.in_err-change.ensures.same h)

pub returns-clause-left : goal.returns-clause-left
returns-clause-left c = λ past h.
    let a = c.args in
    let number : c.in-Some.number ≡ a.self.now.last + 1 = search rules in
    let moved = subst (λ n. IsMoved (left_by n a.entry.now.moment a.entry.now.what) a.self.now c.change.new.self) number c.in_ok-change.ensures.changed in
    let counted : c.count.new.self ≡ record c.change.new.self { last = a.self.now.last + 1; opened = c.change.new.self.opened || is_opening a.entry.now.what } =
    c.count.ensures ∙ (λ i. record c.change.new.self { last = number i; opened = c.change.new.self.opened || is_opening a.entry.now.what }) in
    subst (IsLeftOf (apply past a.entry.now)) (sym counted) (one_more_left past a.entry.now a.self.now c.change.new.self moved h)
