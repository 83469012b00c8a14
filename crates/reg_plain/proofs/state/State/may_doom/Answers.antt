use Rattle.std.proofs.Common.{◌≡◌, None, subst, rules}
use Rattle.reg_plain.specs.declared.state.Known.{Known}
use Rattle.reg_plain.specs.Held.{Decided, held, known_at}
use Rattle.reg_journal.specs.Legal.{IsOver}
use Rattle.reg_plain.proofs.LegalLaws.{is_doomed_by}
use Rattle.reg_plain.proofs.state.State.may_doom.Goals as goal

pub returns-then-is_none : goal.returns-then-is_none
returns-then-is_none c = λ entries.
    let a = c.args in
    let past = held entries a.self.now in
    let standing : past.condemned a.digest.now ≡ None = search rules in
    is_doomed_by c.is_over.result past a.digest.now (IsOver a.self.now.delay a.now (known_at a.self.now a.digest.now).touched) standing (c.if-is_linked.ensures entries) (c.if-is_named.ensures entries)
    (subst (λ (k : Known). Decided c.is_over.result (IsOver a.self.now.delay a.now k.touched)) c.known-known.ensures c.is_over.ensures)
