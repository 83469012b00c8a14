use Rattle.std.proofs.Common.{rules, tests, eqb, sym, ◌∙◌}
use Rattle.std.proofs.lemmas.Iterator.{YieldsList-from_slice}
use Rattle.std.proofs.lemmas.Iterator.Search.{position_from_yields_List}
use Rattle.keeper_api.proofs.TextLaws.{ended_found, ended_missed}
use Rattle.keeper_api.proofs.cursor.Cursor.ended.Goals as goal

pub returns-in_default : goal.returns-in_default
returns-in_default c =
    let at = position_from_yields_List (λ b. eqb b 0) _ _ c.position.result c.position.ensures.ran (YieldsList-from_slice c.self.inside.rest.now cc) (λ x b q k. search (rules, tests)) in
    rw (← c.self.view_is) (ended_missed c.self.inside.rest.now (sym c.in_default.is ∙ at))

pub returns : goal.returns
returns c =
    let at = position_from_yields_List (λ b. eqb b 0) _ _ c.position.result c.position.ensures.ran (YieldsList-from_slice c.self.inside.rest.now cc) (λ x b q k. search (rules, tests)) in
    rw (c.split_at.ensures.front, c.split_at-2.ensures.back, ← c.self.view_is) (ended_found c.self.inside.rest.now c.in-Some.end (sym c.in-Some.is ∙ at))
