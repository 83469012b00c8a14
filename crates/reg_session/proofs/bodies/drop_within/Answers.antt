use Rattle.http_wire.specs.BodyAnswers.{state_of}
use Rattle.http_wire.proofs.StreamLaws.{on_both, on_same}
use Rattle.reg_session.proofs.BodyLaws.{sieved, all_taken, cut_taken, bad_taken, long_taken}
use Rattle.reg_session.proofs.bodies.drop_within.Goals as goal

pub returns-in-Whole-clause-body : goal.returns-in-Whole-clause-body
returns-in-Whole-clause-body g c = on_both _ _ c.in-Whole.ensures.moved c.in-Whole.ensures.ended
    (λ old new takes ended. all_taken c.args.most (state_of c.args.body.now) (state_of c.take_body.new.body) old new (sieved 0) (sieved c.take_body.new.stage.count) c.in-Whole.field-0 takes ended c.in-Whole.ensures.too_long)

pub returns-in-TooLong-clause-body : goal.returns-in-TooLong-clause-body
returns-in-TooLong-clause-body g c = on_same _ _ c.in-TooLong.ensures.moved
    (λ old new takes. long_taken c.args.most (state_of c.args.body.now) (state_of c.take_body.new.body) old new (sieved 0) (sieved c.take_body.new.stage.count) takes c.in-TooLong.ensures.limit c.in-TooLong.ensures.too_long)

pub returns-in-Cut-clause-body : goal.returns-in-Cut-clause-body
returns-in-Cut-clause-body g c = on_both _ _ c.in-Cut.ensures.moved c.in-Cut.ensures.ended
    (λ old new takes ended. cut_taken c.args.most (state_of c.args.body.now) (state_of c.take_body.new.body) old new (sieved 0) (sieved c.take_body.new.stage.count) takes ended c.in-Cut.ensures.too_long)

pub returns-in-Bad-clause-body : goal.returns-in-Bad-clause-body
returns-in-Bad-clause-body g c = on_both _ _ c.in-Bad.ensures.moved c.in-Bad.ensures.ended
    (λ old new takes ended. bad_taken c.args.most (state_of c.args.body.now) (state_of c.take_body.new.body) old new (sieved 0) (sieved c.take_body.new.stage.count) takes ended c.in-Bad.ensures.too_long)
