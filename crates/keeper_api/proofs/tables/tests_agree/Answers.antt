use Rattle.keeper_api.proofs.tables.tests_agree.Goals as goal

pub returns : goal.returns
returns c = rw (c.parts-table.ensures, ← c.as_slice.ensures) c.tests_agree_on.ensures
