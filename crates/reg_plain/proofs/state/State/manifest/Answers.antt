use Rattle.std.proofs.Common.{◌≡◌, Some, ap, rules}
use Rattle.std.specs.Prelude.{option_map}
use Rattle.reg_plain.specs.declared.state.Standing.{Standing}
use Rattle.reg_plain.specs.Held.{standing_at}
use Rattle.reg_plain.proofs.state.State.manifest.Goals as goal

pub returns-in-Some-2 : goal.returns-in-Some-2
returns-in-Some-2 c =
    let a = c.args in
    let s = c.in-Some-2.standing.now in
    let at : standing_at a.self.now a.name.now c.in-Some.digest ≡ Some s = search rules in
    record {
      refers = search rules;
      manifest = s.doc;
      stands = ap (option_map (λ (m : Standing). m.doc)) at;
      kind_is = ap (λ (m : Standing). m.doc.kind) c.standing-in-Some-2.view_is;
      size_is = ap (λ (m : Standing). m.doc.size) c.standing-in-Some-2.view_is;
    }
