use Rattle.std.proofs.Common.{refl, arith}
use Rattle.import_phase.proofs.writing.put_key.Goals as goal

pub returns-clause-kept : goal.returns-clause-kept
returns-clause-kept c = record {
  table = c.args.table;
  bytes = c.args.bytes.now;
  is = refl;
  byte = omega arith;
  are = λ i. omega (arith, c.type_inv.bytes i);
  short = c.requires;
}
