use Rattle.std.proofs.Common.{◌≡◌, List, ℕ, ◌∷◌, ◌++◌, [], Some, cond, rules, ap, subst, ◌∙◌}
use Rattle.std.specs.Prelude.{IsTrue, option_copied}
use Rattle.keeper_api.specs.Rows.{Kept}
use Rattle.reg_tables.specs.InnerNexts.{IsNextBehind}
use Rattle.reg_tables.specs.InnerPending.{is_wanted}
use Rattle.reg_tables.proofs.GatherLaws.{one_more}
use Rattle.reg_tables.proofs.gather.walk.Goals as goal

pub loop-preserved : goal.loop-preserved
loop-preserved g c = record {
  reads = search rules;
  walked = λ told.
      let a = c.args in
      let rows = (g.K.Keeper.kept a.keeper.now).rows in
      let value = subst (λ (k : Kept). IsTrue k.tells → IsNextBehind (a.table ∷ a.front.now) c.deref.result.now k.rows c.in_ok-part.field-0) c.loop.invariant.reads.held_stays c.in_ok-part.ensures.value in
      let next : IsNextBehind (a.table ∷ a.front.now) c.loop.bound.items rows (Some (c.in-Some.part, c.in-Some.row)) = rw (c.deref.ensures.value, c.in-Some.is) at (value told) in
      let stands : c.is_like-stands.result ≡ is_wanted (option_copied a.wanted) (Some c.in-Some.row) = c.is_like-stands.ensures ∙ ap (λ (r : List ℕ). is_wanted (option_copied a.wanted) (Some r)) c.as_slice.ensures in
      let grew : c.note.new.parts.items ≡ cond c.is_like-stands.result (c.loop.parts.items ++ c.in-Some.part ∷ []) c.loop.parts.items = rw c.in_ok-bound-in-Some.ensures.ok at c.note.ensures.parts in
      let bound : c.in_ok-bound-in-Some.bound.items ≡ c.in-Some.part = rw c.in_ok-bound-in-Some.ensures.ok at c.note.ensures.bytes in
      rw bound (one_more (a.table ∷ a.front.now) (option_copied a.wanted) rows c.loop.bound.items c.loop.parts.items c.note.new.parts.items c.in-Some.part c.in-Some.row c.is_like-stands.result next stands grew (c.loop.invariant.walked told));
}
