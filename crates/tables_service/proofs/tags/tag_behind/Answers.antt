use Rattle.std.proofs.Common.{◌≡◌, Some, sym, ap, subst, ◌∙◌}
use Rattle.std.specs.Prelude.{IfOk, option_copied}
use Rattle.reg_entries.specs.Listing.{IsNextTag, last_of}
use Rattle.reg_journal.specs.Changes.{replay}
use Rattle.reg_journal.specs.Past.{shown}
use Rattle.tables_service.proofs.ListLaws.{last_at}
use Rattle.tables_service.proofs.tags.tag_behind.Goals as goal

pub returns-in_ok-text-in-Some-clause-value : goal.returns-in_ok-text-in-Some-clause-value
returns-in_ok-text-in-Some-clause-value g c = λ journal t.
    let last = option_copied c.args.last in
    let same : c.in_ok-text-in-Some.text ≡ c.in-Some.tag.now = rw c.in_ok-text-in-Some.ensures.ok at c.text.ensures in
    let there : last_of last c.args.found.now ≡ Some c.in-Some.tag.now = last_at c.args.found.now last c.in-Some.tag.now (sym c.in-Some.ensures.value) in
    subst (λ after. IfOk c.tag_above.result (IsNextTag (shown (replay journal)) c.args.name.now after)) (ap Some same ∙ sym there) (c.tag_above.ensures.value journal t)
