use Rattle.std.proofs.Common.{◌≡◌, ◌++◌, sym, subst, inl, inr}
use Rattle.reg_journal.specs.declared.entry.What.{What}
use Rattle.reg_journal.specs.Spelling.{text_field, digest_field, document_field, fields_of}
use Rattle.reg_journal.proofs.AppendLaws.{put_pair}
use Rattle.reg_journal.proofs.writing.put_fields.Goals as goal

pub returns-in_ok-put_document-in-Put-clause-out :
    goal.returns-in_ok-put_document-in-Put-clause-out
returns-in_ok-put_document-in-Put-clause-out c =
    let all = put_pair c.args.out.now.items c.put_spot-in-Put.new.out.items c.put_document.new.out.items (text_field c.in-Put.name) (digest_field c.in-Put.digest) (document_field c.in-Put.doc) c.in_ok-put_spot-in-Put.ensures.out c.in_ok-put_document-in-Put.ensures.out in
    elim c.in-Put.is [
      | inl e ↦ subst (λ (w : What). c.put_document.new.out.items ≡ c.args.out.now.items ++ fields_of w) (sym e) all
      | inr e ↦ subst (λ (w : What). c.put_document.new.out.items ≡ c.args.out.now.items ++ fields_of w) (sym e) all
    ]
