use Rattle.std.proofs.Common.{◌≤◌, ◌-◌, ◌^◌}
use Rattle.http_wire.specs.Flow.{stream, spent, Counts}
use Rattle.reg_session.specs.Chains.{own}
use Rattle.reg_session.specs.Sessions.{here}
use Rattle.reg_session.proofs.SessionLaws.{SoFar}
use Rattle.reg_session.proofs.session.serve.Given as goal

-- the requests so far were served
abbrev pub invariant-requests : goal.invariant-requests
invariant-requests g l = record {
  outside : g.H.Holder.may_enter l.holder;
  same : (origin : g.row.H.Denot) → g.H.Holder.is_of origin l.initial.holder → g.H.Holder.is_of origin l.holder;
  so_far : SoFar g.H.Holder.between (own (g.H.Holder.number l.initial.holder) (g.C.Clock.reading l.clock))
      (here (g.H.Holder.at l.initial.holder) (g.I.Ids.words l.initial.ids) (stream l.initial.feed (g.S.Source.left l.initial.source)) (g.S.Source.left l.initial.source) (g.O.Sink.taken l.initial.sink))
      (here (g.H.Holder.at l.holder) (g.I.Ids.words l.ids) (stream l.feed (g.S.Source.left l.source)) (g.S.Source.left l.source) (g.O.Sink.taken l.sink));
  source_later : g.S.Source.faults l.initial.source ≤ g.S.Source.faults l.source;
  sink_later : g.O.Sink.faults l.initial.sink ≤ g.O.Sink.faults l.sink;
  counts : Counts l.initial.feed (g.S.Source.given l.initial.source) l.feed (g.S.Source.given l.source);
}

-- a request that is served takes bytes off the stream, of which there are not so many
abbrev pub decreases-requests : goal.decreases-requests
decreases-requests g l = 2 ^ 51 - spent l.feed
