use Rattle.std.proofs.Common.{◌≡◌, refl, sym, ap, subst, ◌∙◌}
use Rattle.reg_names.specs.Cause.{Rose}
use Rattle.reg_world.specs.declared.world.World.{World}
use Rattle.reg_world.specs.Worlds.{Data, shown, keeper_of}
use Rattle.reg_session.specs.Chains.{own}
use Rattle.reg_session.specs.Sessions.{here, Session}
use Rattle.reg_session.proofs.session.serve_alone.Goals as goal

-- the world behind the reference is the one that the holder left there, since the holder kept the reference
pub returns-clause-session : goal.returns-clause-session
returns-clause-session g c =
    let left = c.serve.new.holder.world in
    let same = c.serve.ensures.same (record { world = record left { ghost_name = _; now = c.args.world.now } }) (refl, refl) in
    subst (λ (w : World g.row.D.Denot g.row.K.Denot). Session (λ (old new : Data). new ≡ old) (own 0 (g.C.Clock.reading c.args.clock.now)) (Rose (g.O.Sink.faults c.args.sink.now) (g.O.Sink.faults c.serve.new.sink))
    (here (shown g.D.Depot.held g.D.Depot.faults c.args.world.now) (g.I.Ids.words c.args.ids.now) (g.S.Source.left c.args.source.now) (g.S.Source.left c.args.source.now) (g.O.Sink.taken c.args.sink.now))
    (here (shown g.D.Depot.held g.D.Depot.faults w) (g.I.Ids.words c.serve.new.ids) (g.S.Source.left c.serve.new.source) (g.S.Source.left c.serve.new.source) (g.O.Sink.taken c.serve.new.sink))
    c.serve.result) (sym (c.world-1.given.1 (sym same.0))) c.serve.ensures.session

pub returns-clause-keeper : goal.returns-clause-keeper
returns-clause-keeper g c =
    let left = c.serve.new.holder.world in
    let same = c.serve.ensures.same (record { world = record left { ghost_name = _; now = c.args.world.now } }) (refl, refl) in
    ap (λ (w : World g.row.D.Denot g.row.K.Denot). keeper_of w) (c.world-1.given.1 (sym same.0)) ∙ same.1
