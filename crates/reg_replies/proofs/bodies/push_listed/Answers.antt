use Rattle.std.proofs.Common.{◌<◌, ◌≤◌, [], ◌∷◌, length, sym, refl, append-nil, arith, codes}
use Rattle.json.specs.Print.{quoted}
use Rattle.reg_replies.proofs.ListLaws.{push_passed, between_passed, all_passed}
use Rattle.reg_replies.proofs.bodies.push_listed.Goals as goal

pub loop-tag-init : goal.loop-tag-init
loop-tag-init c = record {
  text = sym (append-nil _);
  comma = refl;
  utf8 = ([], (refl, refl));
}

pub loop-tag-preserved : goal.loop-tag-preserved
unfolding lib.Utf8.encode
loop-tag-preserved c =
    let within : c.loop-tag.tag-index < length c.args.tags.now = omega arith in
    record {
      text = push_passed quoted (codes ",") _ _ _ _ _ _ _ _ within c.tag-item.is c.loop-tag.invariant.text c.loop-tag.invariant.comma c.in_ok-push_str.ensures.bytes c.in_ok-push_quoted.ensures;
      comma = between_passed quoted (codes ",") _ _ _ within c.tag-item.is;
      utf8 = (44 ∷ [], (refl, refl));
    }

pub returns : goal.returns
returns c =
    let all : length c.args.tags.now ≤ c.loop-tag.tag-index = omega arith in
    all_passed quoted (codes ",") _ _ c.args.tags.now _ c.loop-tag.invariant.text all
