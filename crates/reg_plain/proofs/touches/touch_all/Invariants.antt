use Rattle.std.proofs.Common.{◌≡◌, ℕ, List, take}
use Rattle.std.specs.Prelude.{◌&&◌}
use Rattle.std.specs.BTreeMap as tree
use Rattle.reg_names.specs.Named.{has_digest}
use Rattle.reg_journal.specs.Changes.{is_same}
use Rattle.reg_plain.specs.Held.{spot_cmp}
use Rattle.reg_plain.specs.InnerChanges.{touched_where}
use Rattle.reg_plain.proofs.touches.touch_all.Given as goal

abbrev pub invariant-loop-digest : goal.invariant-loop-digest
invariant-loop-digest l = record {
  there : l.spot.0 ≡ l.fn.spot.0;
  touched : (key : List ℕ × List ℕ) → tree.get spot_cmp l.manifests key
      ≡ touched_where (is_same l.fn.spot.0 key.0 && has_digest key.1 (take l.digest-index l.fn.digests)) l.now (tree.get spot_cmp l.fn.manifests key);
}
