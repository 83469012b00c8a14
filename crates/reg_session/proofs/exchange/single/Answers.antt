use Rattle.std.proofs.Common.{◌≡◌, ℕ, List, [], Option, Some, ap, refl, sym, subst, ◌∙◌}
use Rattle.std.specs.Io.KnownBytes.{Appends}
use Rattle.reg_names.specs.Cause.{Rose}
use Rattle.http_wire.specs.Flow.{stream}
use Rattle.reg_model.specs.Answers.{Answer}
use Rattle.reg_session.specs.InnerSteps.{broken}
use Rattle.reg_session.specs.Requests.{parts_in}
use Rattle.reg_session.specs.Turns.{interim}
use Rattle.reg_session.specs.Works.{Begun}
use Rattle.reg_session.proofs.BlobLaws.{took_front, took_all}
use Rattle.reg_session.proofs.ChainLaws.{makes_none}
use Rattle.reg_session.proofs.ConcludeLaws.{rose_before, wrote_before, concludes_before}
use Rattle.reg_session.proofs.DecidingLaws.{single_goes, single_looks}
use Rattle.reg_session.proofs.ExchangeLaws.{later_than, leaves_none}
use Rattle.reg_session.proofs.RespondLaws.{ask_goes, ask_limits, ask_replies, begun_plainly, body_dropped, line_is_interim, may_come, unsaid_behind, whole_behind, cut_behind, broken_causes, concluded_causes}
use Rattle.reg_session.proofs.exchange.single.Goals as goal

pub returns-then-is_err-clause-responds : goal.returns-then-is_err-clause-responds
returns-then-is_err-clause-responds g c =
    let p = parts_in c.args.head.now in
    let failed = sym c.is_err.ensures.value ∙ c.if-is_err.true in
    record {
      holds = [];
      makes = makes_none _ _ _;
      behind = unsaid_behind (Rose (g.O.Sink.faults c.args.sink.now) (g.O.Sink.faults c.send_continue.new.sink)) p [] _ _ _ _ (begun_plainly p []) (c.send_continue.ensures.waits failed)
          (ask_goes p c.args.ask.now [] c.requires.asked (single_goes c.args.ask.now [] c.requires.single)) (took_front _ _ _ c.send_continue.result failed c.send_continue.ensures.wrote);
    }

pub returns-in-Whole-clause-responds : goal.returns-in-Whole-clause-responds
returns-in-Whole-clause-responds g c =
    let p = parts_in c.args.head.now in
    let all = c.conclude.ensures.concludes in
    let faults = g.O.Sink.faults in
    let since = Rose (faults c.args.sink.now) (faults c.conclude.new.sink) in
    let answer : Answer = record { reply = c.decide-reply.result.0; content = all.bytes } in
    let so = concludes_before (Rose (faults c.send_continue.new.sink) (faults c.conclude.new.sink)) since p answer
    (g.O.Sink.taken c.send_continue.new.sink) (g.O.Sink.taken c.conclude.new.sink) c.conclude.result (rose_before (faults c.args.sink.now) (faults c.send_continue.new.sink) (faults c.conclude.new.sink) c.send_continue.ensures.cause.later) all.so in
    let old = stream c.args.feed.now (g.S.Source.left c.args.source.now) in
    let new = stream c.drop_body.new.feed (g.S.Source.left c.drop_body.new.source) in
    let body = body_dropped p (Some c.limit_of.result) old new (ap Some c.limit_of.ensures ∙ ask_limits p c.args.ask.now c.requires.asked) c.in-Whole.ensures.body in
    let decides = c.decide-reply.ensures.decides answer body.0 (record { reply = refl; content = all.of_blob }) in
    let goes = ask_goes p c.args.ask.now decides.holds c.requires.asked (single_goes c.args.ask.now decides.holds c.requires.single) in
    let said = subst (Appends (g.O.Sink.taken c.args.sink.now) (g.O.Sink.taken c.send_continue.new.sink)) (line_is_interim p decides.holds goes)
    (took_all _ _ _ c.send_continue.result (sym c.is_err.ensures.value ∙ c.if-is_err.false) c.send_continue.ensures.wrote) in
    record {
      holds = decides.holds;
      makes = decides.makes;
      behind = whole_behind since p decides.holds _ _ (g.O.Sink.taken c.send_continue.new.sink) said (may_come p c.args.ask.now decides.holds c.requires.asked (single_looks c.args.ask.now c.requires.single) goes) body.0 c.decide-reply.result.0 all.bytes c.conclude.result
          (ask_replies p c.args.ask.now body.0 decides.holds answer c.requires.asked decides.replies_so) body.1 so;
    }

pub returns-in-Whole-clause-causes : goal.returns-in-Whole-clause-causes
returns-in-Whole-clause-causes g c = concluded_causes _ _ _ _ _ _ g.D.B.Blob.faults c.conclude.result c.drop_body.ensures.cause.later c.send_continue.ensures.cause.later c.conclude.ensures.cause c.conclude.ensures.blob c.conclude.ensures.other

pub returns-in_default-clause-responds : goal.returns-in_default-clause-responds
returns-in_default-clause-responds g c =
    let p = parts_in c.args.head.now in
    let goes = ask_goes p c.args.ask.now [] c.requires.asked (single_goes c.args.ask.now [] c.requires.single) in
    let said = subst (Appends (g.O.Sink.taken c.args.sink.now) (g.O.Sink.taken c.send_continue.new.sink)) (line_is_interim p [] goes)
    (took_all _ _ _ c.send_continue.result (sym c.is_err.ensures.value ∙ c.if-is_err.false) c.send_continue.ensures.wrote) in
    let faults = g.O.Sink.faults in
    let since = Rose (faults c.args.sink.now) (faults c.break_off.new.sink) in
    let wrote = λ (b : Begun) (start : Option (List ℕ)) (parts : b.parts ≡ p) (begun : Appends start (g.O.Sink.taken c.send_continue.new.sink) (interim b.parts b.holds)).
    wrote_before (Rose (faults c.send_continue.new.sink) (faults c.break_off.new.sink)) since c.break_off.result start (g.O.Sink.taken c.break_off.new.sink) (broken b c.drop_body.result)
    (rose_before (faults c.args.sink.now) (faults c.send_continue.new.sink) (faults c.break_off.new.sink) c.send_continue.ensures.cause.later) (c.break_off.ensures.wrote b start parts begun) in
    record {
      holds = [];
      makes = makes_none _ _ _;
      behind = cut_behind since p [] _ _ (g.O.Sink.taken c.send_continue.new.sink) said (may_come p c.args.ask.now [] c.requires.asked (single_looks c.args.ask.now c.requires.single) goes) _ c.drop_body.result c.break_off.result (ap Some c.limit_of.ensures ∙ ask_limits p c.args.ask.now c.requires.asked) refl tt
          (leaves_none _) c.drop_body.ensures.body c.break_off.ensures.ends wrote c.drop_body.ensures.at_end;
    }

pub returns-in_default-clause-causes : goal.returns-in_default-clause-causes
returns-in_default-clause-causes g c = broken_causes _ _ _ _ _ _ c.drop_body.result c.break_off.result c.break_off.ensures.ends c.drop_body.ensures.cause c.drop_body.ensures.long
    (later_than _ _ _ _ c.send_continue.ensures.cause.later c.break_off.ensures.cause)
