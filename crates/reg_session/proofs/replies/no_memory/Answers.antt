use Rattle.std.proofs.Common.{List, ℕ, subst, ◌∙◌}
use Rattle.reg_replies.specs.Writing.{Sends}
use Rattle.reg_session.proofs.ConcludeLaws.{tried}
use Rattle.reg_session.proofs.replies.no_memory.Goals as goal

pub returns-clause-wrote : goal.returns-clause-wrote
returns-clause-wrote g c =
    let old = g.O.Sink.taken c.args.sink.now in
    let new = g.O.Sink.taken c.write_all.new.sink in
    tried old new _ _ _ c.write_all.result (subst (λ (t : List ℕ). Sends old new t c.write_all.result) (c.as_bytes.ensures.value ∙ c.no_memory.ensures) c.write_all.ensures.took) c.write_all.ensures.cause
