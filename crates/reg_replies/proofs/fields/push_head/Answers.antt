use Rattle.std.proofs.lemmas.Result.{IfOk-weaker}
use Rattle.reg_replies.proofs.FieldLaws.{nine_pushed}
use Rattle.reg_replies.proofs.fields.push_head.Goals as goal

pub returns : goal.returns
returns c =
    IfOk-weaker c.push_end.result _ _
    (λ _ last. nine_pushed _ _ _ _ _ _ _ _ _ _ c.in_ok-push_opening.ensures c.in_ok-push_type.ensures c.in_ok-push_length.ensures c.in_ok-push_digest.ensures c.in_ok-push_location.ensures c.in_ok-push_range.ensures c.in_ok-push_link.ensures c.in_ok-push_allow.ensures last)
    c.push_end.ensures
