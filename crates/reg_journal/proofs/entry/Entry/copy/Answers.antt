use Rattle.std.proofs.Common.{◌∙◌}
use Rattle.reg_journal.proofs.EntryLaws.{spelled_alike}
use Rattle.reg_journal.proofs.entry.Entry.copy.Goals as goal

pub returns : goal.returns
returns c =
    let back = rw c.in-Some.is at c.in_ok-entry.ensures in
    spelled_alike c.in-Some.entry c.args.self.now back.0 c.in_ok-bytes.ensures.entry (back.1 ∙ (c.as_slice.ensures ∙ c.in_ok-bytes.ensures.spelled))
