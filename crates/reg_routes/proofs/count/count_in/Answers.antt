use Rattle.std.proofs.Common.{◌∙◌, ◌<◌, ◌-◌, sym, get_or, arith}
use Rattle.std.proofs.lemmas.List.Folds.{list_all_more}
use Rattle.std.proofs.lemmas.Int.Digits.{digits_value_more}
use Rattle.std.specs.Char.{is_ascii_digit}
use Rattle.http_wire.proofs.NumberLaws.{has_room, one_digit_more, digit_is, both}
use Rattle.reg_routes.proofs.count.count_in.Goals as goal

pub overflow_mul-value : goal.overflow_mul-value
overflow_mul-value c =
    let few : c.loop-digit.digit-index < 18 = omega arith in
    let room = has_room c.loop-digit.value c.loop-digit.digit-index c.loop-digit.invariant.2 few in
    omega arith

pub overflow_add-value : goal.overflow_add-value
overflow_add-value c =
    let few : c.loop-digit.digit-index < 18 = omega arith in
    let room = has_room c.loop-digit.value c.loop-digit.digit-index c.loop-digit.invariant.2 few in
    let is = digit_is (get_or c.args.text.now c.loop-digit.digit-index 0) (sym c.is_ascii_digit.ensures.value ∙ c.if-not-is_ascii_digit.false) in
    omega (arith, is.1)

pub loop-digit-preserved : goal.loop-digit-preserved
loop-digit-preserved c =
    let text = c.args.text.now in
    let i = c.loop-digit.digit-index in
    let digit = sym c.is_ascii_digit.ensures.value ∙ c.if-not-is_ascii_digit.false in
    let is = digit_is (get_or text i 0) digit in
    let more = digits_value_more 10 text i c.loop-digit-test.true in (
      list_all_more is_ascii_digit text i 0 c.loop-digit-test.true ∙ both _ _ c.loop-digit.invariant.0 digit,
      omega (arith, more, is.0, c.loop-digit.invariant.1),
      one_digit_more c.loop-digit.value i (get_or text i 0 - 48) c.loop-digit.invariant.2 is.1,
    )
