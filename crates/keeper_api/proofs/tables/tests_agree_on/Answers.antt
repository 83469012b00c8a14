use Rattle.std.proofs.Common.{◌∷◌, arith}
use Rattle.reg_names.specs.Digests.{AreBytes}
use Rattle.keeper_api.proofs.TableLaws.{stands, stands_from}
use Rattle.keeper_api.proofs.tables.tests_agree_on.Goals as goal

pub returns : goal.returns
returns c =
    let key : AreBytes c.args.key.now = λ i. omega (arith, c.type_inv.key i) in
    let row : AreBytes c.args.row.now = λ i. omega (arith, c.type_inv.row i) in
    (stands (c.args.table ∷ c.args.key.now) c.args.row.now row, stands_from c.args.table c.args.key.now c.args.row.now key row)
