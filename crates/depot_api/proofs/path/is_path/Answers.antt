use Rattle.std.proofs.Common.{lit<, ◌∙◌, subst}
use Rattle.std.proofs.lemmas.Bool.{false≢true}
use Rattle.std.proofs.lemmas.Iterator.Consumers.{YieldsList-turn, YieldsList-end}
use Rattle.std.proofs.lemmas.Iterator.Splits.{YieldsList-from_str_split}
use Rattle.depot_api.specs.Paths.{IsPath}
use Rattle.depot_api.proofs.PathLaws.{not_path_from_long, not_path_from_part, IsPath-from_parts}
use Rattle.depot_api.proofs.path.is_path.Goals as goal

pub returns-then-text-gt-PATH_LIMIT : goal.returns-then-text-gt-PATH_LIMIT
returns-then-text-gt-PATH_LIMIT c = not_path_from_long c.args.text.now c.if-text-gt-PATH_LIMIT.true

pub returns-then-not-is_part_text : goal.returns-then-not-is_part_text
returns-then-not-is_part_text c =
    let turn = YieldsList-turn (YieldsList-from_str_split 47 c.args.text.now (lit< tt) (cc) (cc) (cc)) c.loop-part.yielded _ c.loop-part.yielded_by _ _ c.in-Some.part c.in-Some.is c.next.ensures.steps in
    not_path_from_part c.args.text.now _ c.in-Some.part.now turn (λ part. false≢true (c.if-not-is_part_text.ensures ∙ part))

pub returns : goal.returns
returns c =
    let end = YieldsList-end (YieldsList-from_str_split 47 c.args.text.now (lit< tt) (cc) (cc) (cc)) c.loop-part.yielded _ c.loop-part.yielded_by _ _ c.in-None.is c.next.ensures.steps in
    subst IsPath end.0 (IsPath-from_parts c.args.text.now _ end.0 c.if-text-gt-PATH_LIMIT.false c.loop-part.invariant)
