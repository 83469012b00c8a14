use Rattle.std.proofs.Common.{sym}
use Rattle.reg_replies.proofs.fields.push_digest.Goals as goal

pub returns-in_ok-digest-in-Some : goal.returns-in_ok-digest-in-Some
returns-in_ok-digest-in-Some c =
    rw (sym c.in-Some.ensures) (rw (c.as_str.ensures.bytes, c.in_ok-digest-in-Some.ensures) at c.push_field.ensures)
