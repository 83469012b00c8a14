use Rattle.std.proofs.Common.{sym, ap, ◌∙◌}
use Rattle.manifest_doc.specs.Stored.{stored_in}
use Rattle.manifest_doc.proofs.StoredLaws.{stored_computed}
use Rattle.tables_service.proofs.manifests.judged.Goals as goal

pub returns-in-Some-clause-verified : goal.returns-in-Some-clause-verified
returns-in-Some-clause-verified c =
    (stored_computed c.args.digest.now c.args.bytes c.in-Some.doc).0 (ap (stored_in c.args.digest.now) (sym c.as_slice.ensures) ∙ sym c.in_ok-doc.ensures ∙ c.in-Some.is)
