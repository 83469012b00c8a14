use Rattle.std.proofs.Common.{◌≡◌, [], ◌∷◌, refl, ap, ◌∙◌}
use Rattle.std.specs.Prelude.{not}
use Rattle.reg_entries.specs.Numbers.{blob_unknown}
use Rattle.reg_entries.specs.declared.reply.Reply.TheVariants as replies
use Rattle.reg_journal.specs.declared.entry.What.TheVariants as entries
use Rattle.reg_model.specs.Changing.{Unlinks, enters, makes}
use Rattle.files_service.specs.declared.change.FileChange.TheVariants as file
use Rattle.files_service.proofs.DroppingLaws.{links_none, unlinks}
use Rattle.files_service.proofs.ServingLaws.{lacked, served, told_of}
use Rattle.files_service.proofs.dropping.unlink.Goals as goal

pub returns-then-is_none : goal.returns-then-is_none
returns-then-is_none g c =
    let args = c.args in
    let old = g.D.Depot.held args.depot.now in
    let reads = c.has_layer.ensures.reads in
    let found = told_of old old (λ state size. size ≡ state.links args.name.now args.digest.now) c.has_layer.result c.in_ok-has_layer.field-0 refl c.in_ok-has_layer.was c.has_layer.ensures.value in
    lacked g.D.Depot.held g.D.Depot.faults (Unlinks args.name.now args.digest.now) args.depot.now c.has_layer.new.depot c.lacks.new.depot args.name.now blob_unknown c.lacks.result reads.held_stays reads.cause.later c.lacks.ensures.value c.lacks.ensures.fits c.lacks.ensures.reads
    (links_none args.name.now args.digest.now _ _ c.in_ok-has_layer.field-0 found (c.is_none.ensures ∙ ap not c.if-is_none.true))

pub returns : goal.returns
returns g c =
    let args = c.args in
    let old = g.D.Depot.held args.depot.now in
    let reads = c.has_layer.ensures.reads in
    let found = told_of old old (λ state size. size ≡ state.links args.name.now args.digest.now) c.has_layer.result c.in_ok-has_layer.field-0 refl c.in_ok-has_layer.was c.has_layer.ensures.value in
    served g.D.Depot.held g.D.Depot.faults (Unlinks args.name.now args.digest.now) args.depot.now c.has_layer.new.depot c.remove.new.depot (makes replies.Dropped (enters (entries.Unlink args.name.now args.digest.now) ∷ [])) (file.Remove c.in_ok-at.at ∷ []) c.remove.result reads.held_stays reads.cause.later (ap (λ p. file.Remove p ∷ []) c.in_ok-at.ensures.path) c.remove.ensures.reply
    (unlinks args.name.now args.digest.now _ _ c.in_ok-has_layer.field-0 found (c.is_none.ensures ∙ ap not c.if-is_none.false)) c.remove.ensures.changes
