use Rattle.std.proofs.Common.{◌≡◌, List, ℕ, [], ◌∷◌, ◌++◌, true, false, refl, ap, sym, ◌∙◌}
use Rattle.reg_tables.proofs.GatherLaws.{put_begun, put_turn, put_past}
use Rattle.reg_tables.proofs.gather.add_put.Goals as goal

pub loop-key-init : goal.loop-key-init
loop-key-init c =
    let a = c.args in
    let from : c.in_ok-from.from ≡ a.table ∷ (a.front.now ++ []) = c.in_ok-from.ensures in
    rw c.into_iter-key-iterator.ensures.into_iter_gives
    (put_begun (a.table ∷ a.front.now) a.parts.now.items a.pending.now c.above-key-items.result (rw from at c.above-key-items.ensures.ascend) (rw from at c.above-key-items.ensures.changes))

pub returns-in_default : goal.returns-in_default
returns-in_default c =
    let a = c.args in
    put_past (a.table ∷ a.front.now) a.parts.now.items a.pending.now c.loop-key.parts.items c.in-Some.key.now c.in-Some.row.now c.loop-key.key-iterator c.next.new.self c.in-Some.ensures.steps c.loop-key.invariant c.in_default.ensures

pub loop-key-preserved-in_ok-push : goal.loop-key-preserved-in_ok-push
loop-key-preserved-in_ok-push c =
    let a = c.args in
    let part = c.in-Some-behind.part.now in
    put_turn (a.table ∷ a.front.now) a.parts.now.items a.pending.now c.loop-key.parts.items c.in-Some.key.now c.in-Some.row.now c.loop-key.key-iterator c.next.new.self c.in-Some.ensures.steps c.loop-key.invariant
    c.push.new.self.items part true c.in-Some-behind.ensures (sym c.is_some.ensures ∙ c.if-is_some.true)
    (c.in_ok-push.ensures.items ∙ ap (λ (p : List ℕ). c.loop-key.parts.items ++ p ∷ []) c.in_ok-from_slice.ensures)

pub loop-key-preserved : goal.loop-key-preserved
loop-key-preserved c =
    let a = c.args in
    put_turn (a.table ∷ a.front.now) a.parts.now.items a.pending.now c.loop-key.parts.items c.in-Some.key.now c.in-Some.row.now c.loop-key.key-iterator c.next.new.self c.in-Some.ensures.steps c.loop-key.invariant
    c.loop-key.parts.items c.in-Some-behind.part.now false c.in-Some-behind.ensures (sym c.is_some.ensures ∙ c.if-is_some.false) refl
