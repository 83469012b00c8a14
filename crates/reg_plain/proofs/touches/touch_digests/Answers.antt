use Rattle.std.proofs.Common.{sym, ap, ◌∙◌, take}
use Rattle.std.specs.BTreeMap as tree
use Rattle.std.specs.Ordering.{nat_cmp}
use Rattle.std.specs.Cmp.Lexicographic.{slice_cmp}
use Rattle.reg_names.specs.Named.{has_digest, digests_of}
use Rattle.reg_journal.specs.Changes.{is_same}
use Rattle.reg_plain.specs.InnerChanges.{known_where}
use Rattle.reg_plain.proofs.TouchLaws.{one_named_more, known_again}
use Rattle.reg_plain.proofs.touches.touch_digests.Goals as goal

pub loop-named-preserved : goal.loop-named-preserved
loop-named-preserved c =
    let l = c.loop-named in
    let n = c.named-item.result in
    λ other.
    let before = has_digest other (digests_of (take l.named-index c.args.named.now)) in
    let o = tree.get (slice_cmp nat_cmp) c.args.digests.now other in
    c.touch_digest.ensures other
    ∙ ap (known_where (is_same n.digest other) c.args.now) (l.invariant other)
    ∙ known_again before (is_same n.digest other) c.args.now o
    ∙ ap (λ b. known_where b c.args.now o) (sym (one_named_more c.args.named.now l.named-index n other c.named-item.is c.loop-named-test.true))
