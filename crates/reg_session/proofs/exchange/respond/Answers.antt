use Rattle.std.proofs.Common.{[], Err, ap, subst, sym}
use Rattle.reg_names.specs.Cause.{Rose}
use Rattle.http_wire.specs.Flow.{stream}
use Rattle.reg_routes.specs.Routing.{IsRouted}
use Rattle.reg_session.specs.Chains.{own}
use Rattle.reg_session.specs.Requests.{parts_in, asked_in, limit_by}
use Rattle.reg_session.proofs.ChainLaws.{makes_none}
use Rattle.reg_session.proofs.ExchangeLaws.{begun_wanting}
use Rattle.reg_session.proofs.RespondLaws.{routed_known}
use Rattle.reg_session.proofs.exchange.respond.Goals as goal

pub returns-in-Err-Refused-clause-responds : goal.returns-in-Err-Refused-clause-responds
returns-in-Err-Refused-clause-responds g c =
    record { holds = []; makes = makes_none _ _ _; behind = c.deny.ensures.behind [] (routed_known (parts_in c.args.head.now) c.in-Err-Refused.reply (subst (λ u. IsRouted (asked_in (parts_in c.args.head.now)) (Err u)) c.in-Err-Refused.field-0-is c.in-Err-Refused.ensures)) }

pub deny-requires-clause-limited : goal.deny-requires-clause-limited
deny-requires-clause-limited g c =
    sym (ap limit_by (subst (λ u. IsRouted (asked_in (parts_in c.args.head.now)) (Err u)) c.in-Err-Refused.field-0-is c.in-Err-Refused.ensures))

pub returns-in-Err-NoMemory-clause-responds : goal.returns-in-Err-NoMemory-clause-responds
returns-in-Err-NoMemory-clause-responds g c =
    let left = g.S.Source.left c.args.source.now in
    begun_wanting g.H.Holder.between (own (g.H.Holder.number c.args.holder.now) (g.C.Clock.reading c.args.clock.now)) (Rose (g.O.Sink.faults c.args.sink.now) (g.O.Sink.faults c.no_memory.new.sink)) (parts_in c.args.head.now) (g.H.Holder.at c.args.holder.now) (g.I.Ids.words c.args.ids.now) (stream c.args.feed.now left) left
    (g.O.Sink.taken c.args.sink.now) (g.O.Sink.taken c.no_memory.new.sink) c.is_head.result c.no_memory.result
    c.no_memory.ensures.ends c.is_head.ensures c.no_memory.ensures.wrote
