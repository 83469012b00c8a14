use Rattle.std.proofs.Common.{[], ap, sym, true}
use Rattle.std.proofs.KnownBytes.{Appends-nil}
use Rattle.reg_names.specs.Cause.{Rose}
use Rattle.reg_replies.specs.Replies.{wire}
use Rattle.reg_session.specs.Requests.{parts_in}
use Rattle.reg_session.specs.Works.{denied, IsDenied}
use Rattle.reg_session.proofs.ExchangeLaws.{wanting_behind}
use Rattle.reg_session.proofs.RespondLaws.{denied_behind, dropped_behind, said_nothing, known_replies, not_told, cut_behind, broken_causes, known_begun}
use Rattle.reg_session.proofs.refusing.deny.Goals as goal

pub returns-then-wants_memory-clause-behind : goal.returns-then-wants_memory-clause-behind
returns-then-wants_memory-clause-behind g c holds known =
    wanting_behind (Rose (g.O.Sink.faults c.args.sink.now) (g.O.Sink.faults c.no_memory.new.sink)) (parts_in c.args.head.now) holds _ _ _ _ c.is_head.result c.no_memory.result
    (known_begun (parts_in c.args.head.now) holds c.args.reply.now [] known) c.no_memory.ensures.ends c.is_head.ensures c.no_memory.ensures.wrote

pub returns-then-expects_continue-clause-behind : goal.returns-then-expects_continue-clause-behind
returns-then-expects_continue-clause-behind g c holds known =
    let p = parts_in c.args.head.now in
    let is : IsDenied p holds c.args.reply.now = record { waits = sym c.if-expects_continue.ensures; known = known.silent; may = known.may; enough = sym c.if-wants_memory.ensures; replies_so = known.replies_so } in
    denied_behind (Rose (g.O.Sink.faults c.args.sink.now) (g.O.Sink.faults c.refuse.new.sink)) p holds c.args.reply.now _ _ _ _ is c.refuse.result c.refuse.ensures.ends
    (c.refuse.ensures.wrote (denied p holds c.args.reply.now) (g.O.Sink.taken c.args.sink.now) (Appends-nil (g.O.Sink.taken c.args.sink.now))
    (ap (λ only. wire c.args.reply.now only true) (sym c.is_head-then-expects_continue.ensures)) (sym c.is_head-then-expects_continue.ensures))

pub returns-in-Whole-clause-behind : goal.returns-in-Whole-clause-behind
returns-in-Whole-clause-behind g c holds known =
    let p = parts_in c.args.head.now in
    let quiet = sym c.if-expects_continue.ensures in
    let said = c.conclude.ensures.concludes in
    dropped_behind (Rose (g.O.Sink.faults c.args.sink.now) (g.O.Sink.faults c.conclude.new.sink)) p holds _ _ (g.O.Sink.taken c.args.sink.now) (said_nothing p holds _ quiet) (not_told p holds known.looks quiet) c.args.limit c.args.reply.now said.bytes c.conclude.result
    c.requires.limited (known_replies p holds c.args.reply.now said.bytes known.replies_so said.of_blob) c.in-Whole.ensures.body said.so

pub returns-in_default-clause-behind : goal.returns-in_default-clause-behind
returns-in_default-clause-behind g c holds known =
    let p = parts_in c.args.head.now in
    let quiet = sym c.if-expects_continue.ensures in
    cut_behind (Rose (g.O.Sink.faults c.args.sink.now) (g.O.Sink.faults c.break_off.new.sink)) p holds _ _ (g.O.Sink.taken c.args.sink.now) (said_nothing p holds _ quiet) (not_told p holds known.looks quiet) c.args.limit c.drop_body.result c.break_off.result
    c.requires.limited known.room known.may known.leaves c.drop_body.ensures.body c.break_off.ensures.ends c.break_off.ensures.wrote c.drop_body.ensures.at_end

pub returns-in_default-clause-causes : goal.returns-in_default-clause-causes
returns-in_default-clause-causes g c = broken_causes _ _ _ _ _ _ c.drop_body.result c.break_off.result c.break_off.ensures.ends c.drop_body.ensures.cause c.drop_body.ensures.long c.break_off.ensures.cause
