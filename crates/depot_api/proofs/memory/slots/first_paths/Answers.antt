use Rattle.std.proofs.Common.{length, take, ◌++◌, ◌-◌, ap, sym, ◌∙◌, arith}
use Rattle.std.specs.List.{take_while}
use Rattle.std.specs.Map.{keys_of}
use Rattle.std.proofs.lemmas.Grind.{common_steps}
use Rattle.depot_api.specs.InnerRanges.{with_whole, wholes}
use Rattle.depot_api.specs.Paths.{begins_with}
use Rattle.depot_api.proofs.RangeLaws.{taken_more, wholes_first}
use Rattle.depot_api.proofs.memory.slots.first_paths.Goals as goal

pub loop-path-preserved : goal.loop-path-preserved
loop-path-preserved c =
    let front = c.loop-path.paths.items in
    let rest = wholes c.next.new.self in
    let first = wholes_first _ c.next.new.self c.in-Some.path.now c.in-Some.slot.now c.in-Some.ensures.steps ∙ ap (λ slot. with_whole c.in-Some.path.now slot rest) c.in-Whole.is in
    let turn = taken_more (begins_with c.args.under.now) c.args.most front c.in-Some.path.now (keys_of rest) _ c.loop-path.invariant.within (λ same. c.if-len-most.false (grind (arith, common_steps))) (sym c.if-not-begins_with.ensures) (ap (λ left. front ++ take (c.args.most - length front) (take_while (begins_with c.args.under.now) (keys_of left))) (sym first) ∙ c.loop-path.invariant.all) in
    record { within = grind (arith, common_steps); all = rw (c.in_ok-push.ensures.items, c.in_ok-copy.ensures) turn }
