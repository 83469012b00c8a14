use Rattle.std.proofs.Common.{refl}
use Rattle.reg_replies.proofs.FieldLaws.{upload_row}
use Rattle.reg_replies.proofs.fields.push_upload.Goals as goal

pub returns : goal.returns
returns c = rw (c.in_ok-write.ensures.bytes, c.as_str-id.ensures.bytes, c.in_ok-id.ensures, c.as_str-name.ensures.bytes, upload_row c.args.name.now) refl
