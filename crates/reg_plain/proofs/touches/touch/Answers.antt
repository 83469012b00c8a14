use Rattle.std.proofs.Common.{Some}
use Rattle.std.specs.Prelude.{is_some}
use Rattle.std.proofs.Common.{◌≡◌, ap, rules}
use Rattle.std.specs.BTreeMap as tree
use Rattle.reg_plain.specs.Held.{spot_cmp}
use Rattle.reg_plain.specs.InnerChanges.{touched_at}
use Rattle.reg_plain.proofs.MapLaws.{touched_one}
use Rattle.reg_plain.proofs.touches.touch.Goals as goal

pub returns-in-Some : goal.returns-in-Some
returns-in-Some c =
    let new = touched_at c.args.now c.in-Some.standing.now in
    let at : tree.get spot_cmp c.args.manifests.now c.args.spot.now ≡ Some c.in-Some.standing.now = search rules in
    touched_one c.args.manifests.now (c.get_mut.follows.lender new) c.args.spot.now c.args.now c.in-Some.standing.now at ((c.get_mut.follows.holds new).3 (ap is_some at))
