use Rattle.std.proofs.Common.{sym, ◌∙◌}
use Rattle.std.specs.Prelude.{option_copied}
use Rattle.manifest_doc.proofs.PushedLaws.{judged_good, if_bad_kind}
use Rattle.manifest_doc.proofs.pushed.judge.Goals as goal

pub returns-then-may_type : goal.returns-then-may_type
returns-then-may_type c =
    judged_good (option_copied c.args.typed) c.args.bytes.now c.in-Ok.doc c.in-Ok.ensures.ok (sym c.may_type.ensures ∙ c.if-may_type.true)

pub returns-else-may_type : goal.returns-else-may_type
returns-else-may_type c =
    if_bad_kind (option_copied c.args.typed) c.args.bytes.now c.in-Ok.doc c.bad.result c.in-Ok.ensures.ok (sym c.may_type.ensures ∙ c.if-may_type.false) c.bad.ensures
