use Rattle.std.proofs.Common.{◌∷◌, subst, sym}
use Rattle.keeper_api.specs.Tables.{Fits}
use Rattle.reg_tables.specs.Spelled.{blob_spelled}
use Rattle.reg_tables.specs.declared.rows.BlobRow.{BlobRow}
use Rattle.reg_tables.proofs.FitLaws.{pending_fits, here_fits, doomed_fits}
use Rattle.reg_tables.proofs.strokes.standing_bytes.Goals as goal

pub returns-in_ok-one_number-in-Pending-clause-form : goal.returns-in_ok-one_number-in-Pending-clause-form
returns-in_ok-one_number-in-Pending-clause-form c digest is =
    subst (λ (r : BlobRow). Fits (8 ∷ digest) (blob_spelled r)) (sym c.in-Pending.is) (pending_fits digest c.in-Pending.touched is c.in_ok-one_number-in-Pending.ensures.number)

pub returns-in_ok-put_number-in-Here-clause-form : goal.returns-in_ok-put_number-in-Here-clause-form
returns-in_ok-put_number-in-Here-clause-form c digest is =
    subst (λ (r : BlobRow). Fits (8 ∷ digest) (blob_spelled r)) (sym c.in-Here.is)
    (here_fits digest c.in-Here.size c.in-Here.touched is c.in_ok-bytes-in-Here.ensures.number c.in_ok-put_number-in-Here.ensures.number)

pub returns-in_ok-one_number-in-Doomed-clause-form : goal.returns-in_ok-one_number-in-Doomed-clause-form
returns-in_ok-one_number-in-Doomed-clause-form c digest is =
    subst (λ (r : BlobRow). Fits (8 ∷ digest) (blob_spelled r)) (sym c.in-Doomed.is) (doomed_fits digest c.in-Doomed.entry is c.in_ok-one_number-in-Doomed.ensures.number)
