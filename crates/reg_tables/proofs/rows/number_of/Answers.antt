use Rattle.std.proofs.Common.{arith}
use Rattle.reg_tables.proofs.FormLaws.{number_back}
use Rattle.reg_tables.proofs.rows.number_of.Goals as goal

pub returns : goal.returns
returns c = rw c.from_be_bytes.ensures (number_back c.args.bytes.now c.in-Some.number.now (λ i. omega (arith, c.type_inv.bytes i)) c.requires c.in-Some.ensures.cases.0)
