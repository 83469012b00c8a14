use Rattle.std.proofs.Common.{refl, ap, length, Err, arith}
use Rattle.httparse.specs.declared.Error.{Error}
use Rattle.httparse.specs.Grammar.{HasNoSection, MayBecomeSection}
use Rattle.httparse.specs.Spans.{IsSectionOf}
use Rattle.http_wire.proofs.HeadLaws.{on_partial}
use Rattle.http_wire.proofs.GrammarFacts.{trailer_passes, trailer_open, trailer_bad, if_complete}
use Rattle.http_wire.proofs.pieces.judge_trailer.Goals as goal

pub returns-in-Ok-Complete : goal.returns-in-Ok-Complete
returns-in-Ok-Complete c =
    let w = c.in-Ok-Complete in
    let found = if_complete Error w.field-0 (w.count, w.field-0-0-1) (IsSectionOf c.args.bytes.now 0 c.parse_headers.new.headers) w.field-0-is w.ensures.complete in
    trailer_passes c.args.bytes.now c.parse_headers.new.headers w.count w.field-0-0-1 found.0 found.1 found.2 c.requires.few

pub returns-in-Ok-Partial : goal.returns-in-Ok-Partial
returns-in-Ok-Partial c =
    let said = c.in-Ok-Partial.ensures in
    let is = c.in-Ok-Partial.field-0-is in
    trailer_open c.args.bytes.now (omega (arith, c.if-bytes-limit.true, c.limit.ensures))
    (on_partial c.in-Ok-Partial.field-0 (HasNoSection c.args.bytes.now) is said.partial)
    (on_partial c.in-Ok-Partial.field-0 (MayBecomeSection c.args.bytes.now) is said.unfinished)

pub returns-in-Err : goal.returns-in-Err
returns-in-Err c =
    let said = c.in-Err.ensures in
    (refl, trailer_bad c.args.bytes.now (length c.args.spans.now) c.in-Err.field-0 c.requires.few c.requires.spans said.invalid (λ same. said.too_many (ap Err same)))
