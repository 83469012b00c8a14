use Rattle.reg_tables.proofs.DerivedLaws.{given_derived}
use Rattle.reg_tables.proofs.laws.given_rows_are_derived.Goals as goal

pub returns : goal.returns
returns c = given_derived
