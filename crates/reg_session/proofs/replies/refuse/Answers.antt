use Rattle.std.proofs.Common.{List, ℕ, true, subst, ◌∙◌}
use Rattle.reg_names.specs.Cause.{Rose}
use Rattle.reg_replies.specs.Replies.{wire}
use Rattle.std.specs.Io.KnownBytes.{Appends}
use Rattle.reg_replies.specs.Writing.{TookFront}
use Rattle.reg_session.proofs.ConcludeLaws.{refuses_memory, refuses_whole, refuses_front}
use Rattle.reg_session.proofs.replies.refuse.Goals as goal

pub returns-in_default-clause-wrote : goal.returns-in_default-clause-wrote
returns-in_default-clause-wrote g c work start before is head =
    refuses_memory (Rose (g.O.Sink.faults c.args.sink.now) (g.O.Sink.faults c.no_memory.new.sink)) c.args.head_only (g.O.Sink.taken c.args.sink.now) (g.O.Sink.taken c.no_memory.new.sink) c.no_memory.result c.no_memory.ensures.ends c.no_memory.ensures.wrote work start before head

pub returns-in-Ok-write_all-clause-wrote : goal.returns-in-Ok-write_all-clause-wrote
returns-in-Ok-write_all-clause-wrote g c work start before is head =
    let old = g.O.Sink.taken c.args.sink.now in
    let new = g.O.Sink.taken c.write_all.new.sink in
    let text = wire c.args.reply.now c.args.head_only true in
    refuses_whole text old new (subst (λ (t : List ℕ). Appends old new t) (c.as_slice.ensures ∙ c.in-Ok.ensures) c.in-Ok-write_all.ensures.took) work start before is

pub returns-clause-wrote : goal.returns-clause-wrote
returns-clause-wrote g c work start before is head =
    let old = g.O.Sink.taken c.args.sink.now in
    let new = g.O.Sink.taken c.write_all.new.sink in
    let text = wire c.args.reply.now c.args.head_only true in
    refuses_front text old new (subst (λ (t : List ℕ). TookFront old new t) (c.as_slice.ensures ∙ c.in-Ok.ensures) c.in-Err.ensures.took) work start before is
