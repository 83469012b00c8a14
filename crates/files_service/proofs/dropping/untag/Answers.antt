use Rattle.std.proofs.Common.{◌≡◌, [], ◌∷◌, refl, ap, ◌∙◌}
use Rattle.std.specs.Prelude.{not}
use Rattle.reg_entries.specs.Numbers.{manifest_unknown}
use Rattle.reg_entries.specs.declared.reply.Reply.TheVariants as replies
use Rattle.reg_journal.specs.declared.entry.What.TheVariants as entries
use Rattle.reg_model.specs.Changing.{Untags, enters, makes}
use Rattle.files_service.specs.declared.change.FileChange.TheVariants as file
use Rattle.files_service.proofs.DroppingLaws.{tags_none, untags}
use Rattle.files_service.proofs.ServingLaws.{lacked, served, told_of}
use Rattle.files_service.proofs.dropping.untag.Goals as goal

pub returns-then-is_none : goal.returns-then-is_none
returns-then-is_none g c =
    let args = c.args in
    let old = g.D.Depot.held args.depot.now in
    let reads = c.resolve.ensures.reads in
    let found = told_of old old (λ state digest. digest ≡ state.tags args.name.now args.tag.now) c.resolve.result c.in_ok-resolve.field-0 refl c.in_ok-resolve.was c.resolve.ensures.value in
    lacked g.D.Depot.held g.D.Depot.faults (Untags args.name.now args.tag.now) args.depot.now c.resolve.new.depot c.lacks.new.depot args.name.now manifest_unknown c.lacks.result reads.held_stays reads.cause.later c.lacks.ensures.value c.lacks.ensures.fits c.lacks.ensures.reads
    (tags_none args.name.now args.tag.now _ _ c.in_ok-resolve.field-0 found (c.is_none.ensures ∙ ap not c.if-is_none.true))

pub returns : goal.returns
returns g c =
    let args = c.args in
    let old = g.D.Depot.held args.depot.now in
    let reads = c.resolve.ensures.reads in
    let found = told_of old old (λ state digest. digest ≡ state.tags args.name.now args.tag.now) c.resolve.result c.in_ok-resolve.field-0 refl c.in_ok-resolve.was c.resolve.ensures.value in
    served g.D.Depot.held g.D.Depot.faults (Untags args.name.now args.tag.now) args.depot.now c.resolve.new.depot c.remove.new.depot (makes replies.Dropped (enters (entries.DropTag args.name.now args.tag.now) ∷ [])) (file.Remove c.in_ok-at.at ∷ []) c.remove.result reads.held_stays reads.cause.later (ap (λ p. file.Remove p ∷ []) c.in_ok-at.ensures.path) c.remove.ensures.reply
    (untags args.name.now args.tag.now _ _ c.in_ok-resolve.field-0 found (c.is_none.ensures ∙ ap not c.if-is_none.false)) c.remove.ensures.changes
