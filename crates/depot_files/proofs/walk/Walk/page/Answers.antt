use Rattle.std.proofs.Common.{refl, arith}
use Rattle.std.proofs.lemmas.Grind.{common_steps}
use Rattle.depot_files.proofs.LastLaws.{ArePathsAbove-pushed}
use Rattle.depot_files.proofs.walk.Walk.page.Goals as goal
use Rattle.depot_files.proofs.walk.Walk.page.Goals.{then-is_asked+in_ok-has_given+in_ok-push, else-is_asked}

pub loop-preserved : goal.loop-preserved
loop-preserved g c = elim c.if-is_asked.branch [
  | then-is_asked+in_ok-has_given+in_ok-push w ↦
      let order = ArePathsAbove-pushed c.args.under.now c.args.after c.last.result c.or.result c.loop.page.items c.deref.result.now c.in-Some-3.file c.deref.ensures.value c.last.ensures.value c.or.ensures c.loop.invariant.order (w.if-is_asked.ensures refl) in
      rw (w.page-is, w.in_ok-push.ensures.items) (record { most = grind (arith, common_steps); order = order })
  | else-is_asked w ↦ rw w.page-is c.loop.invariant
]
