use Rattle.std.proofs.Common.{◌≡◌, ℕ, ◌<◌, List, Option, refl, sym, ap, ◌∙◌}
use Rattle.std.specs.Io.KnownBytes.{Appends}
use Rattle.reg_names.specs.Cause.{Rose}
use Rattle.reg_session.specs.declared.gathering.Gathered.TheVariants as gathered
use Rattle.reg_session.specs.InnerSteps.{broken}
use Rattle.reg_session.specs.Requests.{parts_in}
use Rattle.reg_session.specs.Turns.{interim}
use Rattle.reg_session.specs.Works.{Begun}
use Rattle.reg_session.proofs.BlobLaws.{took_front, took_all}
use Rattle.reg_session.proofs.ConcludeLaws.{rose_before, wrote_before, concludes_before}
use Rattle.reg_session.proofs.ExchangeLaws.{later_than}
use Rattle.reg_session.proofs.AddLaws.{add_broken, add_failed, add_unsaid, add_whole}
use Rattle.reg_session.proofs.RespondLaws.{broken_causes}
use Rattle.reg_session.proofs.uploads.add.Goals as goal

pub returns-then-is_err-clause-adds : goal.returns-then-is_err-clause-adds
returns-then-is_err-clause-adds g c h session =
    let failed = sym c.is_err.ensures.value ∙ c.if-is_err.true in
    add_unsaid g.H.Holder.between (Rose (g.O.Sink.faults c.args.sink.now) (g.O.Sink.faults c.send_continue.new.sink)) (parts_in c.args.head.now) c.args.digest h c.args.claim _ session
    (g.H.Holder.at c.args.holder.now) (g.H.Holder.at c.shelve.new.holder) _ _ _ _ _ c.shelve.ensures.held (c.send_continue.ensures.waits failed) (took_front _ _ _ c.send_continue.result failed c.send_continue.ensures.wrote)

pub returns-in-Whole-clause-adds : goal.returns-in-Whole-clause-adds
returns-in-Whole-clause-adds g c h session =
    let p = parts_in c.args.head.now in
    let faults = g.O.Sink.faults in
    let all = c.conclude.ensures.concludes in
    let since = Rose (faults c.args.sink.now) (faults c.conclude.new.sink) in
    let so = concludes_before (Rose (faults c.send_continue.new.sink) (faults c.conclude.new.sink)) since p (record { reply = c.complete-reply.result; content = all.bytes })
    (g.O.Sink.taken c.send_continue.new.sink) (g.O.Sink.taken c.conclude.new.sink) c.conclude.result (rose_before (faults c.args.sink.now) (faults c.send_continue.new.sink) (faults c.conclude.new.sink) c.send_continue.ensures.cause.later) all.so in
    add_whole g.H.Holder.between since p c.args.digest h c.args.claim _ session (g.H.Holder.at c.args.holder.now) (g.H.Holder.at c.complete-reply.new.holder)
    (0 < g.D.S.Stage.faults c.gather.new.stage) _ _ _ (g.O.Sink.taken c.send_continue.new.sink) c.complete-reply.result all.bytes c.conclude.result c.gather.ensures.grows c.in-Whole.ensures.body
    (λ body stages. c.complete-reply.ensures.completes session.ask body _ h session.upload session.gives stages)
    (took_all _ _ _ c.send_continue.result (sym c.is_err.ensures.value ∙ c.if-is_err.false) c.send_continue.ensures.wrote) all.of_blob so

pub returns-in-Failed-clause-adds : goal.returns-in-Failed-clause-adds
returns-in-Failed-clause-adds g c h session =
    let p = parts_in c.args.head.now in
    let faults = g.O.Sink.faults in
    let all = c.conclude-in-Failed.ensures.concludes in
    let since = Rose (faults c.args.sink.now) (faults c.conclude-in-Failed.new.sink) in
    let so = concludes_before (Rose (faults c.send_continue.new.sink) (faults c.conclude-in-Failed.new.sink)) since p (record { reply = c.refusal.result; content = all.bytes })
    (g.O.Sink.taken c.send_continue.new.sink) (g.O.Sink.taken c.conclude-in-Failed.new.sink) c.conclude-in-Failed.result (rose_before (faults c.args.sink.now) (faults c.send_continue.new.sink) (faults c.conclude-in-Failed.new.sink) c.send_continue.ensures.cause.later) all.so in
    add_failed g.H.Holder.between since p c.args.digest h c.args.claim _ session (g.H.Holder.at c.args.holder.now) (g.H.Holder.at c.shelve-in-Failed.new.holder)
    (0 < g.D.S.Stage.faults c.gather.new.stage) _ _ _ _ (g.O.Sink.taken c.send_continue.new.sink) c.refusal.result all.bytes c.conclude-in-Failed.result c.gather.ensures.grows c.in-Failed.ensures.body c.shelve-in-Failed.ensures.held (c.in-Failed.ensures.failed refl) c.refusal.ensures
    (took_all _ _ _ c.send_continue.result (sym c.is_err.ensures.value ∙ c.if-is_err.false) c.send_continue.ensures.wrote) all.of_blob so

pub returns-in-Broken-clause-adds : goal.returns-in-Broken-clause-adds
returns-in-Broken-clause-adds g c h session =
    let p = parts_in c.args.head.now in
    let faults = g.O.Sink.faults in
    let since = Rose (faults c.args.sink.now) (faults c.break_off.new.sink) in
    let wrote = λ (b : Begun) (start : Option (List ℕ)) (parts : b.parts ≡ p) (begun : Appends start (g.O.Sink.taken c.send_continue.new.sink) (interim b.parts b.holds)).
    wrote_before (Rose (faults c.send_continue.new.sink) (faults c.break_off.new.sink)) since c.break_off.result start (g.O.Sink.taken c.break_off.new.sink) (broken b c.in-Broken.dropped)
    (rose_before (faults c.args.sink.now) (faults c.send_continue.new.sink) (faults c.break_off.new.sink) c.send_continue.ensures.cause.later) (c.break_off.ensures.wrote b start parts begun) in
    add_broken g.H.Holder.between since p c.args.digest h c.args.claim _ session (g.H.Holder.at c.args.holder.now) (g.H.Holder.at c.shelve-in-Broken.new.holder)
    c.in-Broken.dropped _ _ _ _ (g.O.Sink.taken c.send_continue.new.sink) c.break_off.result c.gather.ensures.grows c.in-Broken.ensures.body c.shelve-in-Broken.ensures.held
    (took_all _ _ _ c.send_continue.result (sym c.is_err.ensures.value ∙ c.if-is_err.false) c.send_continue.ensures.wrote) c.break_off.ensures.ends wrote (λ is. c.in-Broken.ensures.at_end (ap gathered.Broken is))

pub returns-in-Broken-clause-causes : goal.returns-in-Broken-clause-causes
returns-in-Broken-clause-causes g c = broken_causes _ _ _ _ _ _ c.in-Broken.dropped c.break_off.result c.break_off.ensures.ends
    (record { later = c.in-Broken.ensures.cause.later; rose = λ is. c.in-Broken.ensures.cause.rose (ap gathered.Broken is) }) (λ is. c.in-Broken.ensures.long (ap gathered.Broken is))
    (later_than _ _ _ _ c.send_continue.ensures.cause.later c.break_off.ensures.cause)
