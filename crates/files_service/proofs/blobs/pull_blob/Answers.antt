use Rattle.std.proofs.Common.{rules, ◌≡◌, None, Ok, subst}
use Rattle.std.specs.Prelude.{IfOk}
use Rattle.depot_api.specs.Holdings.{Finds}
use Rattle.link_reading.specs.Meaning.{Means}
use Rattle.reg_entries.specs.Numbers.{blob_unknown}
use Rattle.reg_entries.specs.declared.ask.Ask.TheVariants as asks
use Rattle.reg_model.specs.Answers.{LacksIn, plain}
use Rattle.files_service.specs.Answers.{Answers}
use Rattle.reg_model.proofs.ReplyLaws.{alone}
use Rattle.files_service.proofs.AnswerLaws.{blob_missing}
use Rattle.files_service.proofs.blobs.pull_blob.Goals as goal

pub returns-in_ok-reply-in-None-clause-answer : goal.returns-in_ok-reply-in-None-clause-answer
returns-in_ok-reply-in-None-clause-answer g c =
    let found : c.find_blob.result ≡ Ok None = search rules in
    let given : c.lacks.result ≡ Ok c.in_ok-reply-in-None.reply = search rules in
    let lacks = subst (λ held. Finds held c.lacks.result (λ files. LacksIn (Means files) c.args.name.now blob_unknown)) c.find_blob.ensures.reads.held_stays c.lacks.ensures.value in
    let answers = blob_missing g.D.B.Blob.rest (g.D.Depot.held c.args.depot.now) c.args.name.now c.args.digest.now c.find_blob.result found c.find_blob.ensures.value c.lacks.result lacks c.lacks.ensures.fits in
    alone g.D.B.Blob.rest c.in_ok-reply-in-None.reply
    (Answers (g.D.Depot.held c.args.depot.now) (asks.GetBlob c.args.name.now c.args.digest.now))
    (subst (λ r. IfOk r (λ reply. Answers (g.D.Depot.held c.args.depot.now) (asks.GetBlob c.args.name.now c.args.digest.now) (plain reply))) given answers)
