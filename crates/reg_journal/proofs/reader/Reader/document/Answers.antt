use Rattle.std.proofs.Common.{Some, None, sym, ap, ◌∙◌}
use Rattle.std.proofs.lemmas.Bool.{cond-true, cond-false, false_from_ne_true}
use Rattle.reg_entries.specs.Documents.{KeptManifest, kept_of}
use Rattle.reg_journal.specs.InnerReading.{is_kept, document_at}
use Rattle.reg_journal.proofs.EntryLaws.{kept_is, kept_tested}
use Rattle.reg_journal.proofs.reader.Reader.document.Goals as goal

pub returns-in-Some : goal.returns-in-Some
unfolding document_at
returns-in-Some c =
    let doc : KeptManifest = kept_of c.in_ok-kind.kind c.in_ok-size.size c.in_ok-named.named c.in_ok-children.children in
    rw (c.in_ok-kind.ensures, c.in_ok-size.ensures, c.in_ok-named.ensures, c.in_ok-children.ensures)
    (cond-true (is_kept doc) (Some (doc, c.digest_list.new.self)) None (kept_tested doc c.in-Some.ensures.1)
    ∙ ap (λ (d : KeptManifest). Some (d, c.digest_list.new.self)) (sym c.in-Some.ensures.0))

pub returns-in-None : goal.returns-in-None
unfolding document_at
returns-in-None c =
    let doc : KeptManifest = kept_of c.in_ok-kind.kind c.in_ok-size.size c.in_ok-named.named c.in_ok-children.children in
    rw (c.in_ok-kind.ensures, c.in_ok-size.ensures, c.in_ok-named.ensures, c.in_ok-children.ensures)
    (cond-false (is_kept doc) (Some (doc, c.digest_list.new.self)) None (false_from_ne_true (is_kept doc) (λ t. c.in-None.ensures (kept_is doc t))))
