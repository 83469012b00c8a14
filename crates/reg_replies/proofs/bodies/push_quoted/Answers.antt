use Rattle.std.proofs.Common.{refl}
use Rattle.reg_replies.proofs.JsonLaws.{tag_quoted}
use Rattle.reg_replies.proofs.bodies.push_quoted.Goals as goal

pub returns : goal.returns
returns c = rw (c.in_ok-write.ensures.bytes, c.as_str-tag.ensures.bytes, tag_quoted c.args.tag.now c.as_str-tag.ensures.tag) refl
