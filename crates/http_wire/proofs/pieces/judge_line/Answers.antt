use Rattle.std.proofs.Common.{ℕ}
use Rattle.httparse.specs.Grammar.{ChunkLine}
use Rattle.httparse.specs.Spans.{IsChunkLineAt}
use Rattle.httparse.specs.declared.InvalidChunkSize.{InvalidChunkSize}
use Rattle.http_wire.proofs.GrammarFacts.{line_passes, if_complete}
use Rattle.http_wire.proofs.pieces.judge_line.Goals as goal

pub returns-in-Ok-Complete : goal.returns-in-Ok-Complete
returns-in-Ok-Complete c =
    let w = c.in-Ok-Complete in
    let P : ℕ × ℕ → Type 0 = λ r. (l : ChunkLine) × IsChunkLineAt c.args.bytes.now r.0 r.1 l in
    let found = if_complete InvalidChunkSize w.field-0 (w.count, w.size) P w.field-0-is w.ensures.complete in
    line_passes c.args.bytes.now w.count w.size c.after_size.result found.0 found.1 c.requires c.after_size.ensures
