use Rattle.std.proofs.Common.{lit<, ◌∙◌}
use Rattle.std.proofs.lemmas.Iterator.Consumers.{YieldsList-turn, YieldsList-end}
use Rattle.std.proofs.lemmas.Iterator.Splits.{YieldsList-from_str_split}
use Rattle.depot_api.proofs.PathLaws.{not_path_from_long, not_path_from_part, IsPath-from_parts}
use Rattle.depot_api.proofs.path.Path.read.Goals as goal

pub returns-then-text-gt-PATH_LIMIT : goal.returns-then-text-gt-PATH_LIMIT
returns-then-text-gt-PATH_LIMIT c = not_path_from_long c.args.text.now c.if-text-gt-PATH_LIMIT.true

pub returns-in-None-2 : goal.returns-in-None-2
returns-in-None-2 c =
    let turn = YieldsList-turn (YieldsList-from_str_split 47 c.args.text.now (lit< tt) (cc) (cc) (cc)) c.loop-part.yielded _ c.loop-part.yielded_by _ _ c.in-Some.part c.in-Some.is c.next.ensures.steps in
    not_path_from_part c.args.text.now _ c.in-Some.part.now turn (rw c.in-None-2.is at c.in_ok-part.ensures)

pub returns : goal.returns
returns c =
    let end = YieldsList-end (YieldsList-from_str_split 47 c.args.text.now (lit< tt) (cc) (cc) (cc)) c.loop-part.yielded _ c.loop-part.yielded_by _ _ c.in-None.is c.next.ensures.steps in
    let same = c.loop-part.invariant.same ∙ end.0 in
    (same, IsPath-from_parts c.args.text.now _ same c.if-text-gt-PATH_LIMIT.false c.loop-part.invariant.parts)
