use Rattle.std.proofs.Common.{List, sym, subst}
use Rattle.std.proofs.lemmas.Result.{IfOk-weaker}
use Rattle.reg_journal.specs.declared.entry.Entry.{Entry}
use Rattle.reg_journal.specs.declared.entry.What.{What}
use Rattle.reg_journal.specs.Legal.{IsUnnamed, IsLinkOver, Meets}
use Rattle.reg_plain.specs.Held.{Decided, held, link_at}
use Rattle.reg_plain.proofs.state.State.meets.Goals as goal

pub returns-in-DropLink : goal.returns-in-DropLink
returns-in-DropLink c =
    let a = c.args in
    let k = c.in-DropLink in
    IfOk-weaker c.may_drop_link.result
    (λ may. (entries : List Entry) → Decided may (IsUnnamed (held entries a.self.now) k.digest × IsLinkOver a.self.now.delay a.now (link_at a.self.now k.name k.digest)))
    (λ met. (entries : List Entry) → Decided met (Meets a.self.now.delay (held entries a.self.now) a.now a.what.now))
    (λ met h entries. subst (λ (w : What). Decided met (Meets a.self.now.delay (held entries a.self.now) a.now w)) (sym k.is) (h entries)) c.may_drop_link.ensures

pub returns-in-Doom : goal.returns-in-Doom
returns-in-Doom c = λ entries.
    let a = c.args in
    subst (λ (w : What). Decided c.may_doom.result (Meets a.self.now.delay (held entries a.self.now) a.now w)) (sym c.in-Doom.is) (c.may_doom.ensures entries)
