use Rattle.std.proofs.Common.{refl, None, sym}
use Rattle.std.specs.Fmt.{decimal}
use Rattle.reg_replies.proofs.FieldLaws.{last_at, link_row}
use Rattle.reg_replies.proofs.fields.push_next.Goals as goal

pub returns : goal.returns
returns c =
    rw (last_at c.args.tags.now None c.in-Some.last.now (sym (rw c.as_slice.ensures at c.in-Some.ensures.value))) (rw (c.in_ok-write.ensures.bytes, c.as_str-last.ensures.bytes, c.as_str-name.ensures.bytes, link_row c.args.name.now (decimal c.args.n)) refl)
