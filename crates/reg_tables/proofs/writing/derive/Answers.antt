use Rattle.std.proofs.Common.{◌≡◌, ◌∙◌, ◌+◌, ◌≤◌, ◌∷◌, ◌++◌, [], rules, ap, subst, take, take_all, arith, List, ℕ}
use Rattle.std.specs.Prelude.{IsTrue}
use Rattle.keeper_api.specs.Changes.{after}
use Rattle.keeper_api.specs.Rows.{Rows, Kept}
use Rattle.reg_journal.specs.declared.entry.Entry.{Entry}
use Rattle.reg_journal.specs.Changes.{apply, replay}
use Rattle.reg_journal.specs.Past.{Past, next_number}
use Rattle.reg_tables.specs.Derived.{with_past, rows_of, without_taken, journal_limit}
use Rattle.reg_tables.proofs.WriteLaws.{rows_none, rows_next, number_next}
use Rattle.reg_tables.proofs.writing.derive.Goals as goal

pub loop-entry-init : goal.loop-entry-init
loop-entry-init g c = record {
  reads = search rules;
  number = omega arith;
  rows = λ tells journal others is h.
      let rows : Rows = (g.K.Keeper.kept c.args.keeper.now).rows in
      let same : after rows c.in_ok-pending.pending ≡ after rows c.args.changes.items = rw c.in_ok-pending.ensures.ok at c.of.ensures rows in
      same ∙ h ∙ rows_none journal others;
}

pub loop-entry-preserved : goal.loop-entry-preserved
loop-entry-preserved g c =
    let a = c.args in
    let i = c.loop-entry.entry-index in
    let entry : Entry = c.entry-item.result in
    let step = subst (λ (k : Kept). IsTrue k.tells → (past : Past) (base : Rows) → c.loop-entry.number + 1 ≡ next_number past → c.loop-entry.number + 1 ≤ journal_limit → after k.rows c.loop-entry.pending ≡ with_past past base
    → after k.rows c.enter.new.pending ≡ with_past (apply past entry) (without_taken (entry ∷ []) base)) c.loop-entry.invariant.reads.held_stays c.in_ok-enter.ensures.step in
    record {
      reads = search rules;
      number = omega (arith, c.loop-entry.invariant.number);
      rows = λ tells journal others is h.
          step tells (replay (journal ++ take i a.entries.now)) (without_taken (take i a.entries.now) others)
          (ap (λ (n : ℕ). n + 1) c.loop-entry.invariant.number ∙ number_next journal a.entries.now i a.last is c.loop-entry-test.true)
          (omega (arith, c.requires.few, c.loop-entry.invariant.number, c.loop-entry-test.true))
          (c.loop-entry.invariant.rows tells journal others is h)
          ∙ rows_next journal a.entries.now i entry others c.loop-entry-test.true c.entry-item.is;
    }

pub returns-clause-rows : goal.returns-clause-rows
returns-clause-rows g c tells journal others is h =
    let entries : List Entry = c.args.entries.now in
    let rows : Rows = (g.K.Keeper.kept c.args.keeper.now).rows in
    let same : c.in_ok-changes.changes.items ≡ c.loop-entry.pending = rw c.in_ok-changes.ensures.ok at c.into_changes.ensures.changes in
    ap (after rows) same
    ∙ c.loop-entry.invariant.rows tells journal others is h
    ∙ ap (λ (es : List Entry). rows_of (journal ++ es) (without_taken es others)) (take_all c.loop-entry.entry-index entries (omega (arith, c.loop-entry-test.false)))
