use Rattle.std.proofs.Common.{◌<◌, ◌≤◌, [], ◌∷◌, length, sym, refl, append-nil, arith, codes}
use Rattle.reg_entries.specs.Routes.{method_text}
use Rattle.reg_entries.specs.declared.route.Method.TheVariants as methods
use Rattle.reg_replies.proofs.ListLaws.{own_item, push_passed, between_passed, all_passed}
use Rattle.reg_replies.proofs.fields.push_listed.Goals as goal

pub loop-method-init : goal.loop-method-init
loop-method-init c = record {
  text = sym (append-nil _);
  comma = refl;
  utf8 = ([], (refl, refl));
}

pub loop-method-preserved : goal.loop-method-preserved
unfolding lib.Utf8.encode
loop-method-preserved c =
    let within : c.loop-method.method-index < length c.args.methods.now = omega arith in
    record {
      text = push_passed method_text (codes ", ") _ _ _ _ _ _ _ _ within (own_item _ _ _ within) c.loop-method.invariant.text c.loop-method.invariant.comma c.in_ok-push_str.ensures.bytes (rw c.text.ensures at c.in_ok-push_str-2.ensures.bytes);
      comma = between_passed method_text (codes ", ") _ _ _ within (own_item c.args.methods.now _ methods.Get within);
      utf8 = (44 ∷ 32 ∷ [], (refl, refl));
    }

pub returns : goal.returns
returns c =
    let all : length c.args.methods.now ≤ c.loop-method.method-index = omega arith in
    all_passed method_text (codes ", ") _ _ c.args.methods.now _ c.loop-method.invariant.text all
