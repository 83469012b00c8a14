use Rattle.std.proofs.Common.{ap, ◌∙◌, rules, tests}
use Rattle.std.proofs.lemmas.Iterator.{YieldsList-from_slice}
use Rattle.std.proofs.lemmas.Iterator.Search.{any_from_yields_List}
use Rattle.reg_names.specs.declared.named.Named.{Named}
use Rattle.reg_names.specs.Named.{has_digest, digests_of}
use Rattle.reg_entries.specs.Documents.{KeptManifest}
use Rattle.reg_journal.specs.Changes.{is_same}
use Rattle.reg_plain.proofs.LegalLaws.{any_named}
use Rattle.reg_plain.proofs.docs.names.Goals as goal

pub returns : goal.returns
returns c =
    let named = c.as_slice.result.now in
    any_from_yields_List (λ (n : Named). is_same c.args.digest.now n.digest) _ _ c.any.result c.any.ensures.ran (YieldsList-from_slice named cc) (λ x b q k. search (rules, tests))
    ∙ any_named c.args.digest.now named
    ∙ ap (λ ns. has_digest c.args.digest.now (digests_of ns)) (c.as_slice.ensures ∙ ap (λ (d : KeptManifest). d.named) c.doc.view_is)
