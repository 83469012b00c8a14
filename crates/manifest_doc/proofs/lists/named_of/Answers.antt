use Rattle.std.proofs.Common.{ap, ◌∙◌, map}
use Rattle.manifest_doc.proofs.ListLaws.{entry, named_is, all_taken}
use Rattle.manifest_doc.proofs.lists.named_of.Goals as goal

pub returns : goal.returns
returns c =
    let all = c.from_vec.ensures ∙ all_taken _ _ _ c.loop-digest.invariant (ap (map entry) c.in-None.ensures.steps.0) ∙ ap (map entry) c.into_iter-digest-iterator.ensures.into_iter_gives.0 in
    named_is c.args.config c.args.layers.items c.in_ok-freedoms.freedoms.entries _ all c.len.ensures.ordered c.in_ok-freedoms.ensures
