use Rattle.std.proofs.Common.{rules}
use Rattle.std.specs.Prelude.{IsSome}
use Rattle.reg_plain.specs.Held.{held}
use Rattle.reg_plain.proofs.LegalLaws.{is_loose_by}
use Rattle.reg_plain.proofs.state.State.is_loose.Goals as goal

pub returns : goal.returns
returns c = λ entries.
    let a = c.args in
    let past = held entries a.self.now in
    let stands : IsSome (past.manifests a.name.now a.digest.now) = search rules in
    is_loose_by c.is_listed.result past a.name.now a.digest.now stands (c.if-is_tagged.ensures entries) (c.is_listed.ensures entries)
