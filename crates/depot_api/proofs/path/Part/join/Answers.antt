use Rattle.std.proofs.Common.{◌<◌, length, arith, ◌∙◌}
use Rattle.depot_api.proofs.PathLaws.{path_text-pushed}
use Rattle.depot_api.proofs.path.Part.join.Goals as goal

pub loop-part-preserved : goal.loop-part-preserved
loop-part-preserved c =
    let within : c.loop-part.part-index < length c.in-Some.rest.now = omega arith in
    rw (c.in_ok-push_str-2.ensures.bytes, c.in_ok-push_str.ensures.bytes, c.as_str-in-loop-part.ensures.bytes) (path_text-pushed _ _ _ _ within c.part-item.is ∙ c.loop-part.invariant)
