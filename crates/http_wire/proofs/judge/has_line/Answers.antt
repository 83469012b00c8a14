use Rattle.std.proofs.Common.{sym, ◌∙◌}
use Rattle.http_wire.proofs.LineLaws.{line_from, no_line_from}
use Rattle.http_wire.proofs.judge.has_line.Goals as goal

pub returns-in-Some : goal.returns-in-Some
returns-in-Some c = c.contains.ensures.value ∙ line_from c.args.bytes.now c.in-Some.first (sym c.first_text.ensures.place ∙ c.in-Some.is)

pub returns-in-None : goal.returns-in-None
returns-in-None c = no_line_from c.args.bytes.now (sym c.first_text.ensures.place ∙ c.in-None.is)
