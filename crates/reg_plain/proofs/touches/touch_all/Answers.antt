use Rattle.std.proofs.Common.{refl, sym, ap, ◌∙◌, take}
use Rattle.std.specs.Prelude.{◌&&◌}
use Rattle.std.specs.BTreeMap as tree
use Rattle.reg_names.specs.Named.{has_digest}
use Rattle.reg_journal.specs.Changes.{is_same}
use Rattle.reg_plain.specs.Held.{spot_cmp}
use Rattle.reg_plain.specs.InnerChanges.{touched_where}
use Rattle.reg_plain.proofs.TouchLaws.{one_digest_more, touched_again, none_touched}
use Rattle.reg_plain.proofs.touches.touch_all.Goals as goal

pub loop-digest-init : goal.loop-digest-init
loop-digest-init c = record { there = refl; touched = λ key. none_touched (is_same c.args.spot.0 key.0) c.args.now (tree.get spot_cmp c.args.manifests.now key) }

pub loop-digest-preserved : goal.loop-digest-preserved
loop-digest-preserved c =
    let l = c.loop-digest in
    let d = c.digest-item.result in
    record {
      there = l.invariant.there;
      touched = λ key.
          let here = is_same c.args.spot.0 key.0 in
          let before = has_digest key.1 (take l.digest-index c.args.digests.now) in
          let o = tree.get spot_cmp c.args.manifests.now key in
          c.touch.ensures key
          ∙ (λ i. touched_where (is_same (l.invariant.there i) key.0 && is_same d key.1) c.args.now (l.invariant.touched key i))
          ∙ touched_again here before (is_same d key.1) c.args.now o
          ∙ ap (λ b. touched_where (here && b) c.args.now o) (sym (one_digest_more c.args.digests.now l.digest-index d key.1 c.digest-item.is c.loop-digest-test.true));
    }
