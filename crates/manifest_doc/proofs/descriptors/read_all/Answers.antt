use Rattle.std.proofs.Common.{sym, ◌∙◌, ap}
use Rattle.manifest_doc.specs.InnerReading.{bad_unless}
use Rattle.manifest_doc.proofs.Elements.{read_more, read_bad}
use Rattle.manifest_doc.proofs.descriptors.read_all.Goals as goal

pub returns-in_default-clause-err : goal.returns-in_default-clause-err
returns-in_default-clause-err c =
    ap bad_unless (read_bad c.args.values.now c.loop-value.value-index c.value-item.result c.loop-value-test.true c.value-item.is (sym c.in_default.is ∙ c.read.ensures))

pub loop-value-preserved : goal.loop-value-preserved
loop-value-preserved c =
    read_more c.args.values.now c.loop-value.value-index c.value-item.result _ _ c.in-Some.descriptor c.loop-value-test.true c.value-item.is (sym c.in-Some.is ∙ c.read.ensures) c.loop-value.invariant c.in_ok-push.ensures.items
