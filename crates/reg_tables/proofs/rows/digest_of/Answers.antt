use Rattle.std.proofs.Common.{ap, take, ◌∙◌}
use Rattle.reg_tables.proofs.FormLaws.{digest_back}
use Rattle.reg_tables.proofs.rows.digest_of.Goals as goal

pub returns : goal.returns
returns c = rw c.from_sha256.ensures (digest_back c.args.row.now c.in-Some.raw.now c.requires (c.in-Some.ensures.cases.0 ∙ ap (take 32) c.split_at.ensures.back))
