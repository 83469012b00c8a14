use Rattle.std.proofs.Common.{◌≡◌, None, rules}
use Rattle.std.specs.BTreeMap as tree
use Rattle.std.specs.Ordering.{nat_cmp}
use Rattle.std.specs.Cmp.Lexicographic.{slice_cmp}
use Rattle.reg_plain.proofs.MapLaws.{noted}
use Rattle.reg_plain.proofs.touches.note.Goals as goal

pub returns-in_ok-insert-clause-same : goal.returns-in_ok-insert-clause-same
returns-in_ok-insert-clause-same c =
    let at : tree.get (slice_cmp nat_cmp) c.args.digests.now c.args.digest ≡ None = search rules in
    noted c.args.digests.now c.insert.new.self c.args.digest at c.in_ok-insert.ensures.updates
