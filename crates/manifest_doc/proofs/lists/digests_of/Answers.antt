use Rattle.manifest_doc.proofs.ListLaws.{put_turn}
use Rattle.manifest_doc.proofs.lists.digests_of.Goals as goal

pub loop-descriptor-preserved : goal.loop-descriptor-preserved
loop-descriptor-preserved c = put_turn _ _ c.in-Some.descriptor _ _ _ c.in_ok-insert.ensures.updates.0 c.in-Some.ensures.steps.0 c.loop-descriptor.invariant
