use Rattle.std.proofs.Common.{◌≡◌, None, refl, sym, ◌∙◌, arith}
use Rattle.reg_model.specs.Changing.{PushesDocument, missing_in, stored_outcome}
use Rattle.files_service.specs.InnerChanging.{manifest_files}
use Rattle.files_service.proofs.OutcomeLaws.{is_differing, lacks_content, lacks_nothing}
use Rattle.files_service.proofs.ServingLaws.{refused, served, told_of}
use Rattle.files_service.proofs.pushing.push_document.Goals as goal

pub returns-then-is_other : goal.returns-then-is_other
returns-then-is_other g c =
    let args = c.args in
    refused g.D.Depot.held g.D.Depot.faults (PushesDocument args.name.now args.at.now args.digest.now args.bytes.now args.doc.now) args.depot.now args.depot.now c.in_ok-refusal_telling.field-0 refl (omega arith)
    (is_differing args.name.now args.at.now args.digest.now args.bytes.now args.doc.now _ _ c.in_ok-refusal_telling.field-0 (sym c.is_other.ensures ∙ c.if-is_other.true) c.in_ok-refusal_telling.ensures)

pub returns-in_ok-refusal_telling-in-Some : goal.returns-in_ok-refusal_telling-in-Some
returns-in_ok-refusal_telling-in-Some g c =
    let args = c.args in
    let old = g.D.Depot.held args.depot.now in
    refused g.D.Depot.held g.D.Depot.faults (PushesDocument args.name.now args.at.now args.digest.now args.bytes.now args.doc.now) args.depot.now c.missing.new.depot c.in_ok-refusal_telling-in-Some.field-0 c.missing.ensures.reads.held_stays c.missing.ensures.reads.cause.later
    (lacks_content args.name.now args.at.now args.digest.now args.bytes.now args.doc.now _ _ c.in-Some.missing c.in_ok-refusal_telling-in-Some.field-0 (sym c.is_other.ensures ∙ c.if-is_other.false)
    (λ t. sym c.in-Some.is ∙ told_of old old (λ state found. found ≡ missing_in state args.name.now args.doc.now) c.missing.result c.in_ok-missing.field-0 refl c.in_ok-missing.was c.missing.ensures.value t) c.in_ok-refusal_telling-in-Some.ensures)

pub returns-in-None : goal.returns-in-None
returns-in-None g c =
    let args = c.args in
    let old = g.D.Depot.held args.depot.now in
    served g.D.Depot.held g.D.Depot.faults (PushesDocument args.name.now args.at.now args.digest.now args.bytes.now args.doc.now) args.depot.now c.missing.new.depot c.store.new.depot (stored_outcome args.name.now args.at.now args.digest.now args.bytes.now args.doc.now None) (manifest_files args.name.now args.at.now args.digest.now args.bytes.now) c.store.result c.missing.ensures.reads.held_stays c.missing.ensures.reads.cause.later refl c.store.ensures.reply
    (lacks_nothing args.name.now args.at.now args.digest.now args.bytes.now args.doc.now _ _ (sym c.is_other.ensures ∙ c.if-is_other.false)
    (λ t. sym c.in-None.is ∙ told_of old old (λ state found. found ≡ missing_in state args.name.now args.doc.now) c.missing.result c.in_ok-missing.field-0 refl c.in_ok-missing.was c.missing.ensures.value t)) c.store.ensures.changes
