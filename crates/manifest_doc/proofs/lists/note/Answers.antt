use Rattle.manifest_doc.proofs.FreedomLaws.{noted}
use Rattle.manifest_doc.proofs.lists.note.Goals as goal

pub returns : goal.returns
returns c = noted _ _ c.args.digest _ c.args.has_urls c.stays_free-free.ensures c.in_ok-insert.ensures.updates.0
