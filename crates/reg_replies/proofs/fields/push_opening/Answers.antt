use Rattle.std.proofs.Common.{refl}
use Rattle.reg_replies.proofs.fields.push_opening.Goals as goal

pub returns : goal.returns
returns c = rw (c.in_ok-write.ensures.bytes, c.line-line.ensures, c.status_of.ensures) refl
