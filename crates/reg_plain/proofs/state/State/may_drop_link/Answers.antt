use Rattle.std.proofs.Common.{◌≡◌, Some, rules}
use Rattle.reg_journal.specs.Legal.{IsUnnamed}
use Rattle.reg_plain.specs.Held.{held, link_at}
use Rattle.reg_plain.proofs.LegalLaws.{is_dropped_by}
use Rattle.reg_plain.proofs.state.State.may_drop_link.Goals as goal

pub returns-then-not-is_named : goal.returns-then-not-is_named
returns-then-not-is_named c = λ entries.
    let a = c.args in
    let found : link_at a.self.now a.name.now a.digest.now ≡ Some c.in-Some.link = search rules in
    is_dropped_by c.is_over.result (IsUnnamed (held entries a.self.now) a.digest.now) a.self.now.delay a.now (link_at a.self.now a.name.now a.digest.now) c.in-Some.link found (c.if-not-is_named.ensures entries) c.is_over.ensures
