use Rattle.std.proofs.Common.{refl, ◌∙◌}
use Rattle.reg_world.specs.Moves.{replied, failed}
use Rattle.reg_session.proofs.DecidingLaws.{is_plain, decided}
use Rattle.reg_session.proofs.deciding.decide_blob.Goals as goal

pub returns-in-Ok-clause-decides : goal.returns-in-Ok-clause-decides
returns-in-Ok-clause-decides g c o words answer body gives =
    decided g.H.Holder.between o _ _ words words _ body _ (replied answer) answer refl (λ h is so. (is, so)) (c.in-Ok.ensures.held (replied answer) (answer, gives, refl)) refl

pub returns-in-Err-clause-decides : goal.returns-in-Err-clause-decides
returns-in-Err-clause-decides g c o words answer body gives =
    decided g.H.Holder.between o _ _ words words _ body _ (failed c.in-Err.trouble) answer refl (λ h is so. (is, so)) (c.in-Err.ensures.held (failed c.in-Err.trouble) refl) (is_plain answer _ (gives.reply ∙ c.trouble_reply.ensures) gives.content)
