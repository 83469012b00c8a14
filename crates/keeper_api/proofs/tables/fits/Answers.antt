use Rattle.keeper_api.proofs.tables.fits.Goals as goal

pub returns : goal.returns
returns c = rw (c.parts-table.ensures, ← c.as_slice.ensures) c.is_fitting.ensures
