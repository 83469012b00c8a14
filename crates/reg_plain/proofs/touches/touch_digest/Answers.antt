use Rattle.std.proofs.Common.{◌≡◌, Some, rules}
use Rattle.std.specs.BTreeMap as tree
use Rattle.std.specs.Ordering.{nat_cmp}
use Rattle.std.specs.Cmp.Lexicographic.{slice_cmp}
use Rattle.reg_plain.proofs.MapLaws.{touched_digest}
use Rattle.reg_plain.proofs.touches.touch_digest.Goals as goal

pub returns-in-Ok : goal.returns-in-Ok
returns-in-Ok c =
    let at : tree.get (slice_cmp nat_cmp) c.args.digests.now c.args.digest ≡ Some c.in-Some.known = search rules in
    touched_digest c.args.digests.now c.insert.new.self c.args.digest c.args.now c.in-Some.known at c.in-Ok.ensures.updates
