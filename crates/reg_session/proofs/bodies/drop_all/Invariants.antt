use Rattle.std.proofs.Common.{◌≡◌, ◌≤◌, ◌-◌, ◌^◌, length}
use Rattle.http_wire.specs.BodyAnswers.{state_of}
use Rattle.http_wire.specs.Flow.{stream, spent, OnStream, Counts}
use Rattle.reg_session.proofs.BodyLaws.{DecodesSome}
use Rattle.reg_session.proofs.bodies.drop_all.Given as goal

-- a front of the body was decoded, and no count fell
abbrev pub invariant-loop : goal.invariant-loop
invariant-loop g l = record {
  decodes : OnStream (stream l.initial.feed (g.S.Source.left l.initial.source)) (stream l.feed (g.S.Source.left l.source))
      (λ old new. DecodesSome (state_of l.initial.body) old (state_of l.body) new);
  long : length l.piece ≡ 16384;
  ahead : spent l.initial.feed ≤ spent l.feed;
  later : g.S.Source.faults l.initial.source ≤ g.S.Source.faults l.source;
  counts : Counts l.initial.feed (g.S.Source.given l.initial.source) l.feed (g.S.Source.given l.source);
}

-- how many bytes more may be taken
abbrev pub decreases-loop : goal.decreases-loop
decreases-loop g l = 2 ^ 51 - spent l.feed
