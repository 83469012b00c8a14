use Rattle.std.proofs.Common.{◌∷◌, [], arith, rules}
use Rattle.std.proofs.lemmas.Slice.Eq.{text_from_reads}
use Rattle.http_wire.proofs.GrammarFacts.{gap_open_at_none, gap_open_at_cr}
use Rattle.http_wire.proofs.pieces.judge_gap.Goals as goal

pub returns-in-empty : goal.returns-in-empty
returns-in-empty c = gap_open_at_none c.args.bytes.now c.in-empty.len_below

pub returns-in-13 : goal.returns-in-13
returns-in-13 c = gap_open_at_cr c.args.bytes.now (text_from_reads c.args.bytes.now (13 ∷ []) (omega arith) (search rules))
