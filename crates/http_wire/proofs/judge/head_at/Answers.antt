use Rattle.std.proofs.Common.{take}
use Rattle.http_wire.proofs.HeadLaws.{method_is_text, names_are_texts}
use Rattle.http_wire.proofs.judge.head_at.Goals as goal

pub text_at-requires-clause-text : goal.text_at-requires-clause-text
text_at-requires-clause-text c =
    let h = c.requires.head.0 in
    let at = c.requires.head.1 in
    method_is_text h.method _ at.method at.reads.0.method

pub fields_at-requires-clause-names : goal.fields_at-requires-clause-names
fields_at-requires-clause-names c =
    let h = c.requires.head.0 in
    let at = c.requires.head.1 in
    names_are_texts c.args.bytes.now (take c.args.found.now.headers c.args.spans.now) h.fields at.fields at.reads.0.fields
