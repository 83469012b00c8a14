use Rattle.std.proofs.Common.{◌≤◌, ◌∙◌, ◌-◌, ◌+◌, true, false, ap, sym, length, take, drop, arith, length-take, length-drop}
use Rattle.http_wire.specs.Questions.{has_element}
use Rattle.http_wire.proofs.ElementLaws.{element_at, last_element, rest_behind}
use Rattle.http_wire.proofs.questions.has_element.Goals as goal

pub returns-then-is_element : goal.returns-then-is_element
returns-then-is_element c =
    let at = element_at c.args.name.now c.loop-comma.rest.now c.in-Some.comma true (sym c.find_byte.ensures.place ∙ c.in-Some.is) c.in-Some.ensures.within
    (sym c.if-is_element.true ∙ c.is_element.ensures) in
    sym at ∙ c.loop-comma.invariant.0

pub loop-comma-preserved : goal.loop-comma-preserved
loop-comma-preserved c =
    let name = c.args.name.now in
    let rest = c.loop-comma.rest.now in
    let comma = c.in-Some.comma in
    let at = element_at name rest comma false (sym c.find_byte.ensures.place ∙ c.in-Some.is) c.in-Some.ensures.within (sym c.if-is_element.false ∙ c.is_element.ensures) in
    let shorter : length (take (length rest - (comma + 1)) (drop (comma + 1) rest)) ≤ length c.args.value.now =
    omega (arith, c.loop-comma.invariant.1, length-take (length rest - (comma + 1)) (drop (comma + 1) rest), length-drop (comma + 1) rest) in
    (ap (has_element name) (rest_behind rest comma) ∙ sym at ∙ c.loop-comma.invariant.0, shorter)

pub returns : goal.returns
returns c =
    c.is_element-2.ensures ∙ sym (last_element c.args.name.now c.loop-comma.rest.now (sym c.find_byte.ensures.place ∙ c.in_default.is)) ∙ c.loop-comma.invariant.0
