use Rattle.std.proofs.Common.{rules, ◌≡◌, false, sym, subst}
use Rattle.tables_service.specs.Telling.{TellsJournal}
use Rattle.tables_service.proofs.AnswerLaws.{blob_lacked}
use Rattle.tables_service.proofs.blobs.pull_blob.Goals as goal

pub returns-then-not-branch-clause-answer : goal.returns-then-not-branch-clause-answer
returns-then-not-branch-clause-answer g c = λ journal t blobs.
    let kept = g.K.Keeper.kept c.args.keeper.now in
    let held = g.D.Depot.held c.args.depot.now in
    let told = subst (TellsJournal journal) (sym c.has_link.ensures.reads.reads.held_stays) t.told in
    let no : c.in_ok-has_link.field-0 ≡ false = search rules in
    blob_lacked g.D.B.Blob.rest journal kept held c.args.name.now c.args.digest.now c.in_ok-has_link.field-0 c.in_ok-reply.reply
    (c.in_ok-has_link.ensures.value journal t.told) no (c.in_ok-reply.ensures.value journal told) c.in_ok-reply.ensures.fits
