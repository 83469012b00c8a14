use Rattle.std.proofs.Common.{Ok, Err, refl}
use Rattle.reg_session.proofs.CompletingLaws.{closed_ends, end_by_back, end_by_done, end_by_failed, refused_ends}
use Rattle.reg_session.proofs.completing.end.Goals as goal

pub returns-in-Ok-clause-ends : goal.returns-in-Ok-clause-ends
returns-in-Ok-clause-ends g c claim after back =
    end_by_done g.D.S.Stage.held g.H.Holder.between _ _ claim after c.args.finished back c.in-Done.held c.in-Done.reply _ c.in-Done.is
    (closed_ends g.H.Holder.between _ _ c.in-Done.held after c.in-Done.reply c.in-Done.reply (Ok tt) c.in-Ok.ensures.held refl)

pub returns-in-Err-clause-ends : goal.returns-in-Err-clause-ends
returns-in-Err-clause-ends g c claim after back =
    end_by_done g.D.S.Stage.held g.H.Holder.between _ _ claim after c.args.finished back c.in-Done.held c.in-Done.reply _ c.in-Done.is
    (closed_ends g.H.Holder.between _ _ c.in-Done.held after c.in-Done.reply _ (Err c.in-Err.trouble) c.in-Err.ensures.held c.trouble_reply.ensures)

pub returns-in-Back-clause-ends : goal.returns-in-Back-clause-ends
returns-in-Back-clause-ends g c claim after back =
    end_by_back g.D.S.Stage.held g.H.Holder.between _ _ claim after c.args.finished back c.in-Back.held c.in-Back.sealed c.in-Back.reply c.in-Back.reply c.unseal.result c.in-Back.is c.unseal.ensures
    (refused_ends g.H.Holder.between _ _ c.in-Back.held _ _ c.in-Back.reply c.shelve.ensures.held)

pub returns-in-Failed-clause-ends : goal.returns-in-Failed-clause-ends
returns-in-Failed-clause-ends g c claim after back =
    end_by_failed g.D.S.Stage.held g.H.Holder.between _ _ claim after c.args.finished back c.in-Failed.held c.in-Failed.sealed c.in-Failed.trouble _ c.in-Failed.is
    (λ still. c.give_up.ensures.gives_up after c.in-Failed.trouble _ still c.trouble_reply-in-Failed.ensures)
