use Rattle.std.proofs.Common.{refl, sym, ◌∙◌, ap, Err, length}
use Rattle.httparse.specs.Grammar.{HasNoRequest, MayBecomeRequest}
use Rattle.http_wire.proofs.HeadLaws.{open_without_line, open_unfinished, on_partial, never_after_error}
use Rattle.http_wire.proofs.judge.parse.Goals as goal

pub returns-then-not-has_line : goal.returns-then-not-has_line
returns-then-not-has_line c = open_without_line c.args.bytes.now (sym c.has_line.ensures ∙ c.if-not-has_line.true)

pub returns-in-Ok-Partial : goal.returns-in-Ok-Partial
returns-in-Ok-Partial c =
    let said = c.in-Ok-Partial.ensures in
    let is = c.in-Ok-Partial.field-0-is in
    open_unfinished c.args.bytes.now (sym c.has_line.ensures ∙ c.if-not-has_line.false)
    (on_partial c.in-Ok-Partial.field-0 (HasNoRequest c.args.bytes.now) is said.partial)
    (on_partial c.in-Ok-Partial.field-0 (MayBecomeRequest c.args.bytes.now) is said.unfinished)

pub returns-in-Err : goal.returns-in-Err
returns-in-Err c =
    let said = c.in-Err.ensures in
    let never = never_after_error c.args.bytes.now (length c.args.spans.now) c.in-Err.field-0 c.requires.few c.requires.spans said.invalid (λ same. said.too_many (ap Err same)) in
    (refl, (sym c.has_line.ensures ∙ c.if-not-has_line.false, never))
