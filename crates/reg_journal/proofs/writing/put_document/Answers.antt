use Rattle.std.proofs.Common.{◌≡◌, ◌++◌, subst}
use Rattle.reg_entries.specs.Documents.{KeptManifest}
use Rattle.reg_journal.specs.Spelling.{number_field, kind_field, named_field, digest_field, list_field, document_field}
use Rattle.reg_journal.proofs.AppendLaws.{put_four}
use Rattle.reg_journal.proofs.writing.put_document.Goals as goal

pub returns-clause-out : goal.returns-clause-out
returns-clause-out c =
    let fields = c.doc.inside in
    subst (λ (d : KeptManifest). c.put_digest_list.new.out.items ≡ c.args.out.now.items ++ document_field d) c.doc.view_is
    (put_four c.args.out.now.items c.push.new.self.items c.put_number.new.out.items c.put_named_list.new.out.items c.put_digest_list.new.out.items
    (kind_field fields.kind) (number_field fields.size) (list_field named_field fields.named) (list_field digest_field fields.children)
    (rw c.number_of_kind.ensures at c.in_ok-push.ensures.items)
    c.in_ok-put_number.ensures.out
    (rw c.as_slice.ensures at c.in_ok-put_named_list.ensures.out)
    (rw c.as_slice-2.ensures at c.in_ok-put_digest_list.ensures.out))
