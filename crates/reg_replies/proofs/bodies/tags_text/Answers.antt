use Rattle.reg_replies.proofs.JsonLaws.{tags_written}
use Rattle.reg_replies.proofs.bodies.tags_text.Goals as goal

pub returns : goal.returns
returns c =
    tags_written c.args.name.now c.args.tags.now _ _ _ c.as_str-name.ensures.name (rw c.as_str-name.ensures.bytes at c.in_ok-text.ensures.ok) (rw c.as_slice.ensures at c.in_ok-push_listed.ensures) c.in_ok-push_str.ensures.bytes
