use Rattle.std.proofs.Common.{sym, subst, ◌∙◌, ap}
use Rattle.reg_names.specs.Cause.{Rose}
use Rattle.reg_entries.specs.Numbers.{body_too_large, not_a_request}
use Rattle.reg_session.specs.InnerSteps.{broken}
use Rattle.reg_session.specs.Requests.{parts_in, head_only}
use Rattle.reg_session.specs.Works.{refused, began, Wrote}
use Rattle.reg_session.proofs.ConcludeLaws.{refuses_memory}
use Rattle.reg_session.proofs.RespondLaws.{memory_broken, refused_text, refused_head}
use Rattle.reg_session.proofs.refusing.break_off.Goals as goal

pub returns-in-TooLong-clause-wrote : goal.returns-in-TooLong-clause-wrote
returns-in-TooLong-clause-wrote g c b start parts said =
    let p = parts_in c.args.head.now in
    subst (λ d. Wrote (Rose (g.O.Sink.faults c.args.sink.now) (g.O.Sink.faults c.refuse.new.sink)) c.refuse.result start (g.O.Sink.taken c.refuse.new.sink) (broken b d)) (sym c.in-TooLong.is)
    (c.refuse.ensures.wrote (refused b body_too_large) start said (refused_text b p body_too_large _ _ parts c.refusal.ensures c.is_head.ensures) (refused_head b p body_too_large _ parts c.is_head.ensures))

pub returns-in-Malformed-clause-wrote : goal.returns-in-Malformed-clause-wrote
returns-in-Malformed-clause-wrote g c b start parts said =
    let p = parts_in c.args.head.now in
    subst (λ d. Wrote (Rose (g.O.Sink.faults c.args.sink.now) (g.O.Sink.faults c.refuse-in-Malformed.new.sink)) c.refuse-in-Malformed.result start (g.O.Sink.taken c.refuse-in-Malformed.new.sink) (broken b d)) (sym c.in-Malformed.is)
    (c.refuse-in-Malformed.ensures.wrote (refused b not_a_request) start said (refused_text b p not_a_request _ _ parts c.refusal-in-Malformed.ensures c.is_head-in-Malformed.ensures) (refused_head b p not_a_request _ parts c.is_head-in-Malformed.ensures))

pub returns-in-NoMemory-clause-wrote : goal.returns-in-NoMemory-clause-wrote
returns-in-NoMemory-clause-wrote g c b start parts said =
    let failed = Rose (g.O.Sink.faults c.args.sink.now) (g.O.Sink.faults c.no_memory.new.sink) in
    subst (λ work. Wrote failed c.no_memory.result start (g.O.Sink.taken c.no_memory.new.sink) work) (sym (memory_broken b _ c.in-NoMemory.is))
    (refuses_memory failed _ _ _ c.no_memory.result c.no_memory.ensures.ends c.no_memory.ensures.wrote (began b) start said (ap head_only parts ∙ sym c.is_head-in-NoMemory.ensures))
