use Rattle.std.proofs.Common.{List, ℕ, [], ◌∷◌, ◌++◌, Option, refl, subst, arith}
use Rattle.reg_names.specs.Cause.{Rose}
use Rattle.http_wire.specs.Flow.{stream}
use Rattle.http_wire.proofs.MovingLaws.{Counts-trans}
use Rattle.reg_session.specs.Chains.{own}
use Rattle.reg_session.specs.InnerSteps.{ServesOne}
use Rattle.reg_session.specs.Sessions.{here, EndsBy, Serves}
use Rattle.reg_session.specs.Works.{idle}
use Rattle.reg_session.proofs.ConcludeLaws.{rose_before}
use Rattle.reg_session.proofs.SessionLaws.{serves_none, serves_more, ends_before, idle_wants, from_empty, session_causes}
use Rattle.reg_session.proofs.session.serve.Goals as goal

pub returns-in_default-clause-session : goal.returns-in_default-clause-session
returns-in_default-clause-session g c =
    let at = g.H.Holder.at c.args.holder.now in
    let left = g.S.Source.left c.args.source.now in
    let sink = g.O.Sink.taken c.args.sink.now in
    let words = g.I.Ids.words c.args.ids.now in
    let o = own (g.H.Holder.number c.args.holder.now) (g.C.Clock.reading c.args.clock.now) in
    record {
      turns = [];
      work = idle;
      mid = here at words left left sink;
      rest = left;
      serves = serves_none g.H.Holder.between o at words left left sink;
      ends = idle_wants g.H.Holder.between o (Rose (g.O.Sink.faults c.args.sink.now) (g.O.Sink.faults c.no_memory.new.sink)) at words left left sink (g.O.Sink.taken c.no_memory.new.sink) c.no_memory.result c.no_memory.ensures.ends c.no_memory.ensures.wrote;
    }

pub requests-init : goal.requests-init
requests-init g c = record {
  outside = c.requires;
  same = λ origin is. is;
  so_far = ([], serves_none g.H.Holder.between (own (g.H.Holder.number c.args.holder.now) (g.C.Clock.reading c.args.clock.now)) (g.H.Holder.at c.args.holder.now) (g.I.Ids.words c.args.ids.now) (stream c.in-Ok.feed (g.S.Source.left c.args.source.now)) (g.S.Source.left c.args.source.now) (g.O.Sink.taken c.args.sink.now));
  source_later = omega arith;
  sink_later = omega arith;
  counts = record { as_given = λ _. refl; grows = λ _. omega arith };
}

pub requests-preserved : goal.requests-preserved
requests-preserved g c =
    let S = g.S.Source.left in
    let one = c.in-Next.ensures.exchanges in
    let so_far = c.requests.invariant.so_far in
    let reading = g.C.Clock.reading c.args.clock.now in
    let first = here (g.H.Holder.at c.args.holder.now) (g.I.Ids.words c.args.ids.now) (stream c.in-Ok.feed (S c.args.source.now)) (S c.args.source.now) (g.O.Sink.taken c.args.sink.now) in
    let mid = here (g.H.Holder.at c.requests.holder) (g.I.Ids.words c.requests.ids) (stream c.requests.feed (S c.requests.source)) (S c.requests.source) (g.O.Sink.taken c.requests.sink) in
    let last = here (g.H.Holder.at c.exchange.new.holder) (g.I.Ids.words c.exchange.new.ids) (stream c.exchange.new.feed (S c.exchange.new.source)) (S c.exchange.new.source) (g.O.Sink.taken c.exchange.new.sink) in
    let number = g.met.H.Holder.has_number c.args.holder.now c.requests.holder (c.requests.invariant.same c.args.holder.now (g.met.H.Holder.is_itself c.args.holder.now)) in
    let served = subst (λ (n : ℕ). ServesOne g.H.Holder.between (own n reading) mid last one.0) number one.1 in
    record {
      outside = c.exchange.ensures.outside;
      same = λ origin is. c.exchange.ensures.same origin (c.requests.invariant.same origin is);
      so_far = (
        so_far.0 ++ one.0 ∷ [],
        serves_more g.H.Holder.between (own (g.H.Holder.number c.args.holder.now) reading) first mid last so_far.0 one.0 so_far.1 served,
      );
      source_later = omega (arith, c.requests.invariant.source_later, c.exchange.ensures.causes.source.later);
      sink_later = omega (arith, c.requests.invariant.sink_later, c.exchange.ensures.causes.sink.later);
      counts = Counts-trans c.in-Ok.feed (g.S.Source.given c.args.source.now) c.requests.feed (g.S.Source.given c.requests.source) c.exchange.new.feed (g.S.Source.given c.exchange.new.source) c.requests.invariant.counts c.exchange.ensures.counts;
    }

pub returns-in-Ended-clause-session : goal.returns-in-Ended-clause-session
returns-in-Ended-clause-session g c =
    let S = g.S.Source.left in
    let at = g.H.Holder.at c.args.holder.now in
    let words = g.I.Ids.words c.args.ids.now in
    let left = S c.args.source.now in
    let sink = g.O.Sink.taken c.args.sink.now in
    let so_far = c.requests.invariant.so_far in
    let end = c.in-Ended.ensures.exchanges in
    let faults = g.O.Sink.faults in
    let reading = g.C.Clock.reading c.args.clock.now in
    let o = own (g.H.Holder.number c.args.holder.now) reading in
    let mid = here (g.H.Holder.at c.requests.holder) (g.I.Ids.words c.requests.ids) (stream c.requests.feed (S c.requests.source)) (S c.requests.source) (g.O.Sink.taken c.requests.sink) in
    let last = here (g.H.Holder.at c.exchange.new.holder) (g.I.Ids.words c.exchange.new.ids) (stream c.exchange.new.feed (S c.exchange.new.source)) (S c.exchange.new.source) (g.O.Sink.taken c.exchange.new.sink) in
    let number = g.met.H.Holder.has_number c.args.holder.now c.requests.holder (c.requests.invariant.same c.args.holder.now (g.met.H.Holder.is_itself c.args.holder.now)) in
    let ended = subst (λ (n : ℕ). EndsBy g.H.Holder.between (own n reading) (Rose (faults c.requests.sink) (faults c.exchange.new.sink)) mid last c.in-Ended.ended end.0) number end.1 in
    record {
      turns = so_far.0;
      work = end.0;
      mid = mid;
      rest = stream c.exchange.new.feed (S c.exchange.new.source);
      serves = subst (λ (a : Option (List ℕ)). Serves g.H.Holder.between o (here at words a left sink) mid so_far.0) (from_empty c.in-Ok.feed.pending left c.in-Ok.ensures.pending) so_far.1;
      ends = ends_before g.H.Holder.between o (Rose (faults c.requests.sink) (faults c.exchange.new.sink)) (Rose (faults c.args.sink.now) (faults c.exchange.new.sink)) mid last c.in-Ended.ended end.0
          (rose_before (faults c.args.sink.now) (faults c.requests.sink) (faults c.exchange.new.sink) c.requests.invariant.sink_later) ended;
    }

pub returns-in-Ended-clause-same : goal.returns-in-Ended-clause-same
returns-in-Ended-clause-same g c = λ origin is. c.exchange.ensures.same origin (c.requests.invariant.same origin is)

pub returns-in-Ended-clause-causes : goal.returns-in-Ended-clause-causes
returns-in-Ended-clause-causes g c =
    let given = g.S.Source.given in
    let before = c.requests.invariant in
    let counts = Counts-trans c.in-Ok.feed (given c.args.source.now) c.requests.feed (given c.requests.source) c.exchange.new.feed (given c.exchange.new.source) before.counts c.exchange.ensures.counts in
    session_causes (g.S.Source.faults c.args.source.now) (g.S.Source.faults c.requests.source) (g.S.Source.faults c.exchange.new.source)
    (g.O.Sink.faults c.args.sink.now) (g.O.Sink.faults c.requests.sink) (g.O.Sink.faults c.exchange.new.sink)
    (given c.args.source.now) (given c.exchange.new.source) c.in-Ok.feed c.exchange.new.feed g.D.B.Blob.faults c.in-Ended.ended
    before.source_later before.sink_later c.in-Ok.ensures.taken counts c.in-Ended.ensures.causes
