use Rattle.std.proofs.Common.{refl, subst}
use Rattle.reg_entries.specs.declared.ask.Ask.TheVariants as asks
use Rattle.reg_world.specs.Moves.{answers, seen_of}
use Rattle.reg_session.specs.Holds.{Held}
use Rattle.reg_session.proofs.DecidingLaws.{as_asked, base_decided, decided_by}
use Rattle.reg_session.proofs.deciding.decide_plain.Goals as goal

pub returns-in-Base-clause-decides : goal.returns-in-Base-clause-decides
returns-in-Base-clause-decides g c body = as_asked c.in-Base.is (base_decided g.H.Holder.between _ _ body)

pub returns-in-GetManifest-clause-decides : goal.returns-in-GetManifest-clause-decides
returns-in-GetManifest-clause-decides g c body =
    as_asked c.in-GetManifest.is (decided_by g.H.Holder.between _ _ _ _ _ _ body _ c.pull_manifest.result c.reply_to.result refl (λ h is so. (is, so)) c.pull_manifest.ensures.held c.reply_to.ensures)

pub returns-in-DropReference-clause-decides : goal.returns-in-DropReference-clause-decides
returns-in-DropReference-clause-decides g c body =
    as_asked c.in-DropReference.is
    (decided_by g.H.Holder.between _ _ _ _ _ _ body _ c.drop_reference.result c.reply_to-in-DropReference.result refl (λ h is so. (is, so)) c.drop_reference.ensures.held c.reply_to-in-DropReference.ensures)

pub returns-in-DropBlob-clause-decides : goal.returns-in-DropBlob-clause-decides
returns-in-DropBlob-clause-decides g c body =
    as_asked c.in-DropBlob.is
    (decided_by g.H.Holder.between _ _ _ _ _ _ body _ c.drop_blob.result c.reply_to-in-DropBlob.result refl (λ h is so. (is, so)) c.drop_blob.ensures.held c.reply_to-in-DropBlob.ensures)

pub returns-in-State-clause-decides : goal.returns-in-State-clause-decides
returns-in-State-clause-decides g c body =
    as_asked c.in-State.is
    (decided_by g.H.Holder.between _ _ _ _ _ _ body _ c.upload_state.result c.reply_to-in-State.result refl (λ h is so. (is, so)) c.upload_state.ensures.held c.reply_to-in-State.ensures)

pub returns-in-Cancel-clause-decides : goal.returns-in-Cancel-clause-decides
returns-in-Cancel-clause-decides g c body =
    as_asked c.in-Cancel.is
    (decided_by g.H.Holder.between _ _ _ _ _ _ body _ c.cancel_upload.result c.reply_to-in-Cancel.result refl (λ h is so. (is, so)) c.cancel_upload.ensures.held c.reply_to-in-Cancel.ensures)

pub returns-in-Tags-clause-decides : goal.returns-in-Tags-clause-decides
returns-in-Tags-clause-decides g c body =
    as_asked c.in-Tags.is
    (decided_by g.H.Holder.between _ _ _ _ _ _ body _ c.list_tags.result c.reply_to-in-Tags.result refl (λ h is so. (is, so))
    (subst (λ last. Held g.H.Holder.between (g.H.Holder.at c.args.holder.now) (answers (asks.Tags c.in-Tags.name c.in-Tags.n last)) (seen_of c.list_tags.result) (g.H.Holder.at c.list_tags.new.holder)) c.as_ref.ensures.value c.list_tags.ensures.held)
    c.reply_to-in-Tags.ensures)

pub returns-in-Start-clause-decides : goal.returns-in-Start-clause-decides
returns-in-Start-clause-decides g c body = as_asked c.in-Start.is (c.start.ensures.decides body)
