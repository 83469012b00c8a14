use Rattle.std.proofs.Common.{◌≡◌, ℕ, List, [], Option, refl, sym, ap, subst, ◌∙◌}
use Rattle.std.specs.Io.KnownBytes.{Appends}
use Rattle.reg_names.specs.Cause.{Rose}
use Rattle.http_wire.specs.Flow.{stream}
use Rattle.manifest_doc.specs.Pushed.{IsJudged}
use Rattle.reg_session.specs.InnerSteps.{broken, line}
use Rattle.reg_session.specs.Requests.{parts_in}
use Rattle.reg_session.specs.Turns.{interim}
use Rattle.reg_session.specs.Works.{Begun}
use Rattle.reg_session.proofs.BlobLaws.{took_front, took_all}
use Rattle.reg_session.proofs.ConcludeLaws.{rose_before, wrote_before, concludes_before}
use Rattle.reg_session.proofs.ExchangeLaws.{later_than}
use Rattle.reg_session.proofs.ChainLaws.{makes_none}
use Rattle.reg_session.proofs.GatheringLaws.{not_pushed}
use Rattle.reg_session.proofs.PushLaws.{pushed_responds, unpushed_responds}
use Rattle.reg_session.proofs.RespondLaws.{ask_goes, begun_plainly, broken_causes, concluded_causes, unsaid_behind}
use Rattle.reg_session.proofs.manifests.push.Goals as goal

pub returns-then-is_err-clause-responds : goal.returns-then-is_err-clause-responds
returns-then-is_err-clause-responds g c o words =
    let p = parts_in c.args.head.now in
    let failed = sym c.is_err.ensures.value ∙ c.if-is_err.true in
    record {
      holds = [];
      makes = makes_none _ _ _;
      behind = unsaid_behind (Rose (g.O.Sink.faults c.args.sink.now) (g.O.Sink.faults c.send_continue.new.sink)) p [] _ _ _ _ (begun_plainly p []) (c.send_continue.ensures.waits failed)
          (ask_goes p _ [] c.requires.asked refl) (took_front _ _ _ c.send_continue.result failed c.send_continue.ensures.wrote);
    }

pub returns-in-Ok-clause-responds : goal.returns-in-Ok-clause-responds
returns-in-Ok-clause-responds g c o words =
    let p = parts_in c.args.head.now in
    let faults = g.O.Sink.faults in
    let taken = g.O.Sink.taken in
    let all = c.conclude.ensures.concludes in
    let since = Rose (faults c.args.sink.now) (faults c.conclude.new.sink) in
    let so = concludes_before (Rose (faults c.send_continue.new.sink) (faults c.conclude.new.sink)) since p (record { reply = c.reply_to-reply.result; content = all.bytes })
    (taken c.send_continue.new.sink) (taken c.conclude.new.sink) c.conclude.result (rose_before (faults c.args.sink.now) (faults c.send_continue.new.sink) (faults c.conclude.new.sink) c.send_continue.ensures.cause.later) all.so in
    let a = line (stream c.args.feed.now (g.S.Source.left c.args.source.now)) (g.S.Source.left c.args.source.now) (taken c.args.sink.now) in
    let b = line (stream c.take_manifest.new.feed (g.S.Source.left c.take_manifest.new.source)) (g.S.Source.left c.take_manifest.new.source) (taken c.conclude.new.sink) in
    pushed_responds g.H.Holder.between o since p c.args.name.now c.args.at.now c.args.typed.now c.requires.asked words a b (taken c.send_continue.new.sink) (took_all _ _ _ c.send_continue.result (sym c.is_err.ensures.value ∙ c.if-is_err.false) c.send_continue.ensures.wrote)
    c.in-Ok.pushed _ _ c.put_manifest.result c.reply_to-reply.result all.bytes c.conclude.result (subst (λ t. IsJudged t c.in-Ok.pushed.bytes c.in-Ok.pushed.judged) c.as_ref.ensures.value c.in-Ok.ensures.judged) c.in-Ok.ensures.body c.put_manifest.ensures.held c.reply_to-reply.ensures all.of_blob so

pub returns-in-Ok-clause-causes : goal.returns-in-Ok-clause-causes
returns-in-Ok-clause-causes g c = concluded_causes _ _ _ _ _ _ g.D.B.Blob.faults c.conclude.result c.in-Ok.ensures.cause.later c.send_continue.ensures.cause.later c.conclude.ensures.cause c.conclude.ensures.blob c.conclude.ensures.other

pub returns-in-Err-clause-responds : goal.returns-in-Err-clause-responds
returns-in-Err-clause-responds g c o words =
    let p = parts_in c.args.head.now in
    let faults = g.O.Sink.faults in
    let since = Rose (faults c.args.sink.now) (faults c.break_off.new.sink) in
    let wrote = λ (b : Begun) (start : Option (List ℕ)) (parts : b.parts ≡ p) (begun : Appends start (g.O.Sink.taken c.send_continue.new.sink) (interim b.parts b.holds)).
    wrote_before (Rose (faults c.send_continue.new.sink) (faults c.break_off.new.sink)) since c.break_off.result start (g.O.Sink.taken c.break_off.new.sink) (broken b c.in-Err.dropped)
    (rose_before (faults c.args.sink.now) (faults c.send_continue.new.sink) (faults c.break_off.new.sink) c.send_continue.ensures.cause.later) (c.break_off.ensures.wrote b start parts begun) in
    unpushed_responds g.H.Holder.between o since p _ _ _ c.requires.asked words _ _ (g.O.Sink.taken c.send_continue.new.sink) (took_all _ _ _ c.send_continue.result (sym c.is_err.ensures.value ∙ c.if-is_err.false) c.send_continue.ensures.wrote)
    c.in-Err.dropped _ c.break_off.result c.in-Err.ensures.body c.break_off.ensures.ends wrote (λ is. c.in-Err.ensures.at_end (ap not_pushed is))

pub returns-in-Err-clause-causes : goal.returns-in-Err-clause-causes
returns-in-Err-clause-causes g c = broken_causes _ _ _ _ _ _ c.in-Err.dropped c.break_off.result c.break_off.ensures.ends
    (record { later = c.in-Err.ensures.cause.later; rose = λ is. c.in-Err.ensures.cause.rose (ap not_pushed is) }) (λ is. c.in-Err.ensures.long (ap not_pushed is))
    (later_than _ _ _ _ c.send_continue.ensures.cause.later c.break_off.ensures.cause)
