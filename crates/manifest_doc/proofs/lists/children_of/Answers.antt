use Rattle.std.proofs.Common.{◌∙◌}
use Rattle.manifest_doc.proofs.ListLaws.{children_are, all_taken}
use Rattle.manifest_doc.proofs.lists.children_of.Goals as goal

pub returns : goal.returns
returns c =
    let all = c.from_vec.ensures ∙ all_taken _ _ _ c.loop-digest.invariant c.in-None.ensures.steps.0 ∙ c.into_iter-digest-iterator.ensures.into_iter_gives.0 in
    children_are c.args.manifests.items c.in_ok-digests.digests.keys _ all c.len.ensures.ordered c.in_ok-digests.ensures
