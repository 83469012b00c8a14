use Rattle.reg_session.proofs.CompletingLaws.{failed_ends, given_up, let_go, released_ends}
use Rattle.reg_session.proofs.completing.give_up.Goals as goal

pub returns-in-Some-clause-gives_up : goal.returns-in-Some-clause-gives_up
returns-in-Some-clause-gives_up g c after trouble reply still is =
    given_up g.D.S.Stage.held g.H.Holder.between _ _ c.args.claim after trouble reply c.args.sealed still c.in-Some.sealed c.unseal.result c.in-Some.is c.unseal.ensures
    (failed_ends g.H.Holder.between _ _ c.args.claim _ _ trouble reply c.shelve.ensures.held is)

pub returns-in-None-clause-gives_up : goal.returns-in-None-clause-gives_up
returns-in-None-clause-gives_up g c after trouble reply still is =
    let_go g.D.S.Stage.held g.H.Holder.between _ _ c.args.claim after trouble reply c.args.sealed still c.in-None.is
    (released_ends g.H.Holder.between _ _ c.args.claim after trouble reply c.release.ensures.held is)
