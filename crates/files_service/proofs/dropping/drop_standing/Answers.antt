use Rattle.std.proofs.Common.{Some, None, Ok, refl, ap, ◌∙◌, arith}
use Rattle.reg_entries.specs.Listing.{AreTagsTo}
use Rattle.reg_entries.specs.State.{IsLeastParent}
use Rattle.reg_model.specs.Changing.{DropsStanding, drop_outcome}
use Rattle.files_service.proofs.DroppingLaws.{is_listed, drops_with_tags}
use Rattle.files_service.proofs.ServingLaws.{refused, served, told_of}
use Rattle.files_service.proofs.dropping.drop_standing.Goals as goal

pub returns-in_ok-refusal_telling-in-Some : goal.returns-in_ok-refusal_telling-in-Some
returns-in_ok-refusal_telling-in-Some g c =
    let args = c.args in
    let old = g.D.Depot.held args.depot.now in
    let reads = c.listed_by.ensures.reads in
    let found = told_of old old (λ state. IsLeastParent state args.name.now args.digest.now) c.listed_by.result (Some c.in-Some.lister) refl (c.in_ok-lister.was ∙ ap Ok c.in-Some.is) c.listed_by.ensures.value in
    refused g.D.Depot.held g.D.Depot.faults (λ told facts. DropsStanding told facts.state args.name.now args.digest.now) args.depot.now c.listed_by.new.depot c.in_ok-refusal_telling-in-Some.field-0 reads.held_stays reads.cause.later
    (is_listed args.name.now args.digest.now _ _ c.in-Some.lister c.in_ok-refusal_telling-in-Some.field-0 found c.in_ok-refusal_telling-in-Some.ensures)

pub returns-in_ok-files-in-None : goal.returns-in_ok-files-in-None
returns-in_ok-files-in-None g c =
    let args = c.args in
    let old = g.D.Depot.held args.depot.now in
    let one = c.listed_by.ensures.reads in
    let two = c.tags_to.ensures.reads in
    let none = told_of old old (λ state. IsLeastParent state args.name.now args.digest.now) c.listed_by.result None refl (c.in_ok-lister.was ∙ ap Ok c.in-None.is) c.listed_by.ensures.value in
    let tags = told_of old (g.D.Depot.held c.listed_by.new.depot) (λ state. AreTagsTo state args.name.now args.digest.now) c.tags_to.result c.in_ok-tags-in-None.tags one.held_stays c.in_ok-tags-in-None.was c.tags_to.ensures.value in
    served g.D.Depot.held g.D.Depot.faults (λ told facts. DropsStanding told facts.state args.name.now args.digest.now) args.depot.now c.tags_to.new.depot c.remove.new.depot (drop_outcome args.name.now args.digest.now None c.in_ok-tags-in-None.tags) c.deref.result.now c.remove.result (two.held_stays ∙ one.held_stays) (omega (arith, one.cause.later, two.cause.later)) (cc (c.deref.ensures.value, c.in_ok-files-in-None.ensures, c.as_slice.ensures)) c.remove.ensures.reply
    (drops_with_tags args.name.now args.digest.now _ _ c.in_ok-tags-in-None.tags none tags) c.remove.ensures.changes
