use Rattle.std.proofs.Common.{Option, refl, sym, subst, ◌∙◌}
use Rattle.std.specs.Prelude.{IsSome}
use Rattle.reg_names.specs.Cause.{Rose}
use Rattle.reg_session.specs.InnerReplies.{Concludes}
use Rattle.reg_session.specs.Requests.{parts_in}
use Rattle.reg_session.proofs.ConcludeLaws.{IsHeadOf, blob_concludes}
use Rattle.reg_session.proofs.replies.conclude.Goals as goal

pub returns-in-Some-clause-concludes : goal.returns-in-Some-clause-concludes
returns-in-Some-clause-concludes g c =
    let p = parts_in c.args.head.now in
    let old = g.O.Sink.taken c.args.sink.now in
    let new = g.O.Sink.taken c.conclude_blob.new.sink in
    let is : IsHeadOf p c.args.reply.now c.is_head-head_only.result c.ends_connection-last.result c.as_slice.result.now = record {
      plain = sym c.wants_memory.ensures ∙ c.if-wants_memory.false;
      only_is = c.is_head-head_only.ensures;
      last_is = c.ends_connection-last.ensures;
      text_is = c.as_slice.ensures ∙ c.in-Ok.ensures;
    } in
    let of_blob = c.requires (subst (λ (b : Option g.row.B.Denot). IsSome b) (sym c.in-Some.is) refl) in
    let failed = Rose (g.O.Sink.faults c.args.sink.now) (g.O.Sink.faults c.conclude_blob.new.sink) in
    subst (λ (b : Option g.row.B.Denot). Concludes g.B.Blob.rest failed p c.args.reply.now b old new c.conclude_blob.result) (sym c.in-Some.is)
    (blob_concludes g.B.Blob.rest failed p c.args.reply.now c.in-Some.blob c.is_head-head_only.result c.ends_connection-last.result c.as_slice.result.now old new c.conclude_blob.result is of_blob c.conclude_blob.ensures.sends c.conclude_blob.ensures.whole)
