use Rattle.std.proofs.Common.{refl}
use Rattle.reg_replies.proofs.FieldLaws.{content_row}
use Rattle.reg_replies.proofs.fields.push_content.Goals as goal

pub returns : goal.returns
returns c = rw (c.in_ok-write.ensures.bytes, c.as_str-digest.ensures.bytes, c.in_ok-digest.ensures, c.as_str-name.ensures.bytes, content_row c.args.name.now c.args.folder.now) refl
