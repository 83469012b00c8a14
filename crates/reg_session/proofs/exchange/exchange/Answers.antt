use Rattle.std.proofs.Common.{inl, inr, refl}
use Rattle.std.proofs.KnownBytes.{Appends-nil}
use Rattle.reg_names.specs.Cause.{Rose}
use Rattle.http_wire.specs.declared.head.Heading.TheVariants as headings
use Rattle.http_wire.specs.Flow.{stream}
use Rattle.reg_session.specs.declared.ended.Ended.TheVariants as ends
use Rattle.reg_session.specs.Chains.{own}
use Rattle.reg_session.specs.Works.{number_of}
use Rattle.reg_session.proofs.ExchangeLaws.{headed, causes_behind, advances_behind, turned, turned_causes, ended_idle, idle_wanting, source_failed_causes}
use Rattle.reg_session.proofs.exchange.exchange.Goals as goal

pub returns-in-Head-clause-exchanges : goal.returns-in-Head-clause-exchanges
returns-in-Head-clause-exchanges g c =
    let S = g.S.Source.left in
    headed g.H.Holder.between (own (g.H.Holder.number c.args.holder.now) (g.C.Clock.reading c.args.clock.now)) (Rose (g.O.Sink.faults c.args.sink.now) (g.O.Sink.faults c.respond.new.sink)) c.in-Head.head (g.H.Holder.at c.args.holder.now) (g.H.Holder.at c.respond.new.holder) (g.I.Ids.words c.args.ids.now) (g.I.Ids.words c.respond.new.ids)
    (stream c.args.feed.now (S c.args.source.now)) (stream c.read_head.new.feed (S c.read_head.new.source)) (stream c.respond.new.feed (S c.respond.new.source))
    (S c.args.source.now) (S c.read_head.new.source) (S c.respond.new.source) (g.O.Sink.taken c.args.sink.now) (g.O.Sink.taken c.respond.new.sink)
    c.respond.result c.in-Head.ensures.answer c.respond.ensures.responds

pub returns-in-Head-clause-causes : goal.returns-in-Head-clause-causes
returns-in-Head-clause-causes g c =
    causes_behind (g.S.Source.faults c.args.source.now) (g.S.Source.faults c.read_head.new.source) (g.S.Source.faults c.respond.new.source)
    (g.O.Sink.faults c.args.sink.now) (g.O.Sink.faults c.respond.new.sink) c.respond.new.feed.taken g.D.B.Blob.faults c.respond.result
    c.read_head.ensures.cause.later c.respond.ensures.causes

pub returns-in-Head-clause-advances : goal.returns-in-Head-clause-advances
returns-in-Head-clause-advances g c =
    advances_behind c.args.feed.now c.read_head.new.feed c.respond.new.feed c.respond.result c.in-Head.ensures.heads c.in-Head.ensures.bounded c.respond.ensures.progress

pub returns-in-End-clause-exchanges : goal.returns-in-End-clause-exchanges
returns-in-End-clause-exchanges g c =
    let S = g.S.Source.left in
    let sink = g.O.Sink.taken c.args.sink.now in
    ended_idle g.H.Holder.between (own (g.H.Holder.number c.args.holder.now) (g.C.Clock.reading c.args.clock.now)) (Rose (g.O.Sink.faults c.args.sink.now) (g.O.Sink.faults c.args.sink.now)) headings.End (g.H.Holder.at c.args.holder.now) (g.I.Ids.words c.args.ids.now) (stream c.args.feed.now (S c.args.source.now)) (stream c.read_head.new.feed (S c.read_head.new.source))
    (S c.args.source.now) (S c.read_head.new.source) sink sink ends.Done c.in-End.ensures.answer (λ x y t. (t.1, t.0)) tt (c.in-End.ensures.at_end (inl refl)) (Appends-nil sink)

pub returns-in-Cut-clause-exchanges : goal.returns-in-Cut-clause-exchanges
returns-in-Cut-clause-exchanges g c =
    let S = g.S.Source.left in
    let sink = g.O.Sink.taken c.args.sink.now in
    ended_idle g.H.Holder.between (own (g.H.Holder.number c.args.holder.now) (g.C.Clock.reading c.args.clock.now)) (Rose (g.O.Sink.faults c.args.sink.now) (g.O.Sink.faults c.args.sink.now)) headings.Cut (g.H.Holder.at c.args.holder.now) (g.I.Ids.words c.args.ids.now) (stream c.args.feed.now (S c.args.source.now)) (stream c.read_head.new.feed (S c.read_head.new.source))
    (S c.args.source.now) (S c.read_head.new.source) sink sink ends.Cut c.in-Cut.ensures.answer (λ x y t. (t.1, t.0)) tt (c.in-Cut.ensures.at_end (inr refl)) (Appends-nil sink)

pub returns-in-Bad-clause-exchanges : goal.returns-in-Bad-clause-exchanges
returns-in-Bad-clause-exchanges g c =
    let S = g.S.Source.left in
    turned g.H.Holder.between (own (g.H.Holder.number c.args.holder.now) (g.C.Clock.reading c.args.clock.now)) (Rose (g.O.Sink.faults c.args.sink.now) (g.O.Sink.faults c.refuse.new.sink)) c.in-Bad.number c.refusal.result (g.H.Holder.at c.args.holder.now) (g.I.Ids.words c.args.ids.now)
    (stream c.args.feed.now (S c.args.source.now)) (stream c.read_head.new.feed (S c.read_head.new.source)) (S c.args.source.now) (S c.read_head.new.source)
    (g.O.Sink.taken c.args.sink.now) (g.O.Sink.taken c.refuse.new.sink) c.refuse.result c.refusal.ensures c.in-Bad.ensures.answer c.refuse.ensures.ends c.refuse.ensures.wrote

pub returns-in-Bad-clause-causes : goal.returns-in-Bad-clause-causes
returns-in-Bad-clause-causes g c =
    turned_causes (number_of c.refusal.result) (g.S.Source.faults c.args.source.now) (g.S.Source.faults c.read_head.new.source)
    (g.O.Sink.faults c.args.sink.now) (g.O.Sink.faults c.refuse.new.sink) c.read_head.new.feed.taken g.D.B.Blob.faults c.refuse.result
    c.refuse.ensures.ends c.read_head.ensures.cause.later c.refuse.ensures.cause

pub returns-in-SourceFault-clause-exchanges : goal.returns-in-SourceFault-clause-exchanges
returns-in-SourceFault-clause-exchanges g c =
    let S = g.S.Source.left in
    let sink = g.O.Sink.taken c.args.sink.now in
    ended_idle g.H.Holder.between (own (g.H.Holder.number c.args.holder.now) (g.C.Clock.reading c.args.clock.now)) (Rose (g.O.Sink.faults c.args.sink.now) (g.O.Sink.faults c.args.sink.now)) headings.SourceFault (g.H.Holder.at c.args.holder.now) (g.I.Ids.words c.args.ids.now) (stream c.args.feed.now (S c.args.source.now)) (stream c.read_head.new.feed (S c.read_head.new.source))
    (S c.args.source.now) (S c.read_head.new.source) sink sink ends.SourceFault c.in-SourceFault.ensures.answer (λ x y t. (t, tt)) tt tt (Appends-nil sink)

pub returns-in-SourceFault-clause-causes : goal.returns-in-SourceFault-clause-causes
returns-in-SourceFault-clause-causes g c =
    source_failed_causes (g.S.Source.faults c.args.source.now) (g.S.Source.faults c.read_head.new.source) (g.O.Sink.faults c.args.sink.now) c.read_head.new.feed.taken g.D.B.Blob.faults
    c.read_head.ensures.cause.later (c.in-SourceFault.ensures.cause.rose refl)

pub returns-in-Long-clause-exchanges : goal.returns-in-Long-clause-exchanges
returns-in-Long-clause-exchanges g c =
    let S = g.S.Source.left in
    let sink = g.O.Sink.taken c.args.sink.now in
    ended_idle g.H.Holder.between (own (g.H.Holder.number c.args.holder.now) (g.C.Clock.reading c.args.clock.now)) (Rose (g.O.Sink.faults c.args.sink.now) (g.O.Sink.faults c.args.sink.now)) headings.Long (g.H.Holder.at c.args.holder.now) (g.I.Ids.words c.args.ids.now) (stream c.args.feed.now (S c.args.source.now)) (stream c.read_head.new.feed (S c.read_head.new.source))
    (S c.args.source.now) (S c.read_head.new.source) sink sink ends.Long c.in-Long.ensures.answer (λ x y t. (t, tt)) tt tt (Appends-nil sink)

pub returns-in-NoMemory-clause-exchanges : goal.returns-in-NoMemory-clause-exchanges
returns-in-NoMemory-clause-exchanges g c =
    let S = g.S.Source.left in
    idle_wanting g.H.Holder.between (own (g.H.Holder.number c.args.holder.now) (g.C.Clock.reading c.args.clock.now)) (Rose (g.O.Sink.faults c.args.sink.now) (g.O.Sink.faults c.no_memory.new.sink)) (g.H.Holder.at c.args.holder.now) (g.I.Ids.words c.args.ids.now) (stream c.args.feed.now (S c.args.source.now)) (stream c.read_head.new.feed (S c.read_head.new.source))
    (S c.args.source.now) (S c.read_head.new.source) (g.O.Sink.taken c.args.sink.now) (g.O.Sink.taken c.no_memory.new.sink) c.no_memory.result
    c.no_memory.ensures.ends c.in-NoMemory.ensures.answer c.no_memory.ensures.wrote
