use Rattle.std.proofs.Common.{rules, tests}
use Rattle.std.proofs.lemmas.Iterator.{YieldsList-from_slice, IsFirst-from_position}
use Rattle.link_paths.proofs.ReadPlaces.{IsHidden, IsOpen, cut_first}
use Rattle.link_paths.proofs.reading.cut_at_hidden.Goals as goal

pub returns-in_err-end : goal.returns-in_err-end
returns-in_err-end c =
    let at = IsFirst-from_position _ _ c.position.result IsHidden IsOpen c.position.ensures.ran (YieldsList-from_slice c.args.parts.now cc) (λ x q k. search (rules, tests)) (λ x q k. search (rules, tests)) in
    rw c.from_residual.ensures (rw c.in_err-end.was at (cut_first c.args.parts.now c.position.result at))

pub returns : goal.returns
returns c =
    let at = IsFirst-from_position _ _ c.position.result IsHidden IsOpen c.position.ensures.ran (YieldsList-from_slice c.args.parts.now cc) (λ x q k. search (rules, tests)) (λ x q k. search (rules, tests)) in
    rw (c.split_at.ensures.front, c.split_at.ensures.back) (rw c.in_ok-end.was at (cut_first c.args.parts.now c.position.result at))
