use Rattle.std.proofs.Common.{sym, ◌∙◌}
use Rattle.http_wire.proofs.ElementLaws.{skipped_to, skipped_all}
use Rattle.http_wire.proofs.questions.skip_ows.Goals as goal

pub returns-in-Some : goal.returns-in-Some
returns-in-Some c = skipped_to c.args.bytes.now c.in-Some.at (sym c.first_text.ensures.place ∙ c.in-Some.is)

pub returns-in-None : goal.returns-in-None
returns-in-None c = skipped_all c.args.bytes.now (sym c.first_text.ensures.place ∙ c.in-None.is)
