use Rattle.std.proofs.Common.{◌≡◌, ◌∙◌, ◌+◌, ◌++◌, rules, ap, subst, length, List, ℕ}
use Rattle.std.specs.Prelude.{IsTrue}
use Rattle.keeper_api.specs.declared.change.Change.{Change}
use Rattle.keeper_api.specs.Changes.{after}
use Rattle.keeper_api.specs.Rows.{Rows, Kept}
use Rattle.reg_journal.specs.declared.entry.Entry.{Entry}
use Rattle.reg_tables.specs.Derived.{rows_of, without_taken}
use Rattle.reg_tables.proofs.WriteLaws.{handed_in, committed}
use Rattle.reg_tables.proofs.writing.write.Goals as goal

pub returns-clause-rows : goal.returns-clause-rows
returns-clause-rows g c tells left journal derived =
    let a = c.args in
    let kept = g.K.Keeper.kept in
    let first : Kept = kept a.keeper.now in
    let changes : List Change = c.in_ok-changes.changes.items in
    let others : Rows = after first.rows a.changes.items in
    let read = c.in_ok-last.ensures.reads.reads.held_stays in
    let same : kept c.derive.new.keeper ≡ first = c.in_ok-changes.ensures.reads.reads.held_stays ∙ read in
    let rows = subst (λ (k : Kept). IsTrue k.tells → (h : List Entry) (o : Rows) → c.in_ok-last.last ≡ length h → after k.rows a.changes.items ≡ rows_of h o → after k.rows changes ≡ rows_of (h ++ c.deref.result.now) (without_taken c.deref.result.now o)) read c.in_ok-changes.ensures.rows in
    committed first (kept c.derive.new.keeper) (kept c.commit.new.keeper) c.deref-2.result.now same c.in_ok-commit.ensures.rows tells
    ∙ ap (after first.rows) c.deref-2.ensures.value
    ∙ rows tells journal others (c.in_ok-last.ensures.value tells journal derived) (handed_in journal first.rows a.changes.items derived left)
    ∙ ap (λ (es : List Entry). rows_of (journal ++ es) (without_taken es others)) c.deref.ensures.value

pub returns-clause-last : goal.returns-clause-last
returns-clause-last g c tells journal derived =
    let more : c.len.result ≡ length c.args.entries.items = search rules in
    c.in_ok-number.ensures.number
    ∙ ap (λ (n : ℕ). n + c.len.result) (c.in_ok-last.ensures.value tells journal derived)
    ∙ ap (λ (n : ℕ). length journal + n) more
