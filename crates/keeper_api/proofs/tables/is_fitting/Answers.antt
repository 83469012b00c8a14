use Rattle.std.proofs.Common.{◌∷◌, sym, ◌∙◌, arith}
use Rattle.reg_names.specs.Digests.{AreBytes}
use Rattle.keeper_api.proofs.TableLaws.{stands, stands_from}
use Rattle.keeper_api.proofs.tables.is_fitting.Goals as goal

pub returns : goal.returns
returns c =
    let key : AreBytes c.args.key.now = λ i. omega (arith, c.type_inv.key i) in
    let row : AreBytes c.args.row.now = λ i. omega (arith, c.type_inv.row i) in
    (λ yes. stands_from c.args.table c.args.key.now c.args.row.now key row (sym c.is_row.ensures ∙ yes), λ fits. c.is_row.ensures ∙ stands (c.args.table ∷ c.args.key.now) c.args.row.now row fits)
