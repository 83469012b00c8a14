use Rattle.std.proofs.Common.{sym, ◌∙◌}
use Rattle.std.proofs.lemmas.List.{nil_from_length}
use Rattle.manifest_doc.proofs.FreedomLaws.{ended}
use Rattle.manifest_doc.proofs.lists.freedoms_of.Goals as goal

pub returns : goal.returns
returns c = ended _ c.loop-layer.layer-iterator.rest.items c.args.config _ c.loop-layer.invariant (nil_from_length _ (sym c.loop-layer.layer-iterator.rest.ok.0 ∙ c.in-None.ensures.steps.0))
