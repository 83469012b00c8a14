use Rattle.std.proofs.Common.{[], ap, refl, sym, subst, arith}
use Rattle.std.proofs.lemmas.Bool.{false≢true}
use Rattle.std.specs.Io.KnownBytes.{Appends}
use Rattle.std.proofs.KnownBytes.{Appends-nil}
use Rattle.reg_names.specs.Cause.{Rose}
use Rattle.reg_entries.specs.Numbers.{body_too_large}
use Rattle.reg_model.specs.Answers.{plain}
use Rattle.upload_sessions.specs.declared.taking.Taken.TheVariants as taken
use Rattle.reg_world.specs.Moves.{failed, gave, staged_of, takes}
use Rattle.reg_session.specs.Holds.{Held}
use Rattle.reg_session.specs.InnerReplies.{RefusesWith}
use Rattle.reg_session.specs.Requests.{parts_in}
use Rattle.reg_session.specs.Works.{number_of, refused}
use Rattle.reg_session.proofs.AddLaws.{given_responds, refused_responds}
use Rattle.reg_session.proofs.ChainLaws.{makes_none}
use Rattle.reg_session.proofs.ExchangeLaws.{only_begun, turned_causes}
use Rattle.reg_session.proofs.RespondLaws.{refused_head, refused_text}
use Rattle.reg_session.proofs.UploadLaws.{long_behind, not_long, unsaid, upload_goes, upload_limited}
use Rattle.reg_session.proofs.uploads.upload.Goals as goal

pub returns-then-is_too_long-clause-responds : goal.returns-then-is_too_long-clause-responds
returns-then-is_too_long-clause-responds g c reading words =
    let p = parts_in c.args.head.now in
    let b = only_begun p [] in
    let taken = g.O.Sink.taken c.args.sink.now in
    let asked = c.requires.asked in
    record {
      holds = [];
      makes = makes_none _ _ _;
      behind = long_behind (Rose (g.O.Sink.faults c.args.sink.now) (g.O.Sink.faults c.refuse.new.sink)) p _ _ _ _ (upload_limited p _ _ _ _ asked) (upload_goes p _ _ _ _ [] asked) (c.if-is_too_long.ensures.0 refl) c.refuse.result
          (subst (λ r. RefusesWith (number_of r) c.refuse.result) c.refusal.ensures c.refuse.ensures.ends)
          (c.refuse.ensures.wrote (refused b body_too_large) taken (subst (λ t. Appends taken taken t) (sym (unsaid p _ _ _ _ asked)) (Appends-nil taken))
          (refused_text b p body_too_large c.refusal.result c.is_head.result refl c.refusal.ensures c.is_head.ensures) (refused_head b p body_too_large c.is_head.result refl c.is_head.ensures));
    }

pub returns-then-is_too_long-clause-causes : goal.returns-then-is_too_long-clause-causes
returns-then-is_too_long-clause-causes g c = turned_causes (number_of c.refusal.result) _ _ _ _ _ g.D.B.Blob.faults c.refuse.result c.refuse.ensures.ends (omega arith) c.refuse.ensures.cause

pub returns-in-Out-clause-responds : goal.returns-in-Out-clause-responds
returns-in-Out-clause-responds g c reading words =
    given_responds g.H.Holder.between _ (parts_in c.args.head.now) c.args.name.now c.args.id.now c.args.start c.args.digest (g.H.Holder.number c.args.holder.now) c.requires.asked (not_long _ _ (λ long. false≢true (c.if-is_too_long.ensures.1 long))) _ _
    c.in-Out.held _ _ reading words _ _ _ c.add.result
    (subst (λ t. Held g.H.Holder.between (g.H.Holder.at c.args.holder.now) (takes (g.H.Holder.number c.args.holder.now) c.args.name.now c.args.id.now c.args.start) (gave (staged_of g.D.S.Stage.held t)) (g.H.Holder.at c.take_upload.new.holder)) c.in-Out.is c.in-Ok.ensures.held)
    c.add.ensures.adds

pub deny-requires-clause-limited : goal.deny-requires-clause-limited
deny-requires-clause-limited g c = sym (upload_limited (parts_in c.args.head.now) _ _ _ _ c.requires.asked)

pub returns-in-Refused-clause-responds : goal.returns-in-Refused-clause-responds
returns-in-Refused-clause-responds g c reading words =
    refused_responds g.H.Holder.between _ (parts_in c.args.head.now) c.args.name.now c.args.id.now c.args.start c.args.digest (g.H.Holder.number c.args.holder.now) c.requires.asked (not_long _ _ (λ long. false≢true (c.if-is_too_long.ensures.1 long))) _ _
    (gave (taken.Refused c.in-Refused.reply)) c.in-Refused.reply reading words _ _ c.deny.result
    (subst (λ t. Held g.H.Holder.between (g.H.Holder.at c.args.holder.now) (takes (g.H.Holder.number c.args.holder.now) c.args.name.now c.args.id.now c.args.start) (gave (staged_of g.D.S.Stage.held t)) (g.H.Holder.at c.take_upload.new.holder)) c.in-Refused.is c.in-Ok.ensures.held)
    refl refl c.deny.ensures.behind

pub deny-requires-in-Err-clause-limited : goal.deny-requires-in-Err-clause-limited
deny-requires-in-Err-clause-limited g c = sym (upload_limited (parts_in c.args.head.now) _ _ _ _ c.requires.asked)

pub returns-in-Err-clause-responds : goal.returns-in-Err-clause-responds
returns-in-Err-clause-responds g c reading words =
    refused_responds g.H.Holder.between _ (parts_in c.args.head.now) c.args.name.now c.args.id.now c.args.start c.args.digest (g.H.Holder.number c.args.holder.now) c.requires.asked (not_long _ _ (λ long. false≢true (c.if-is_too_long.ensures.1 long))) _ _
    (failed c.in-Err.trouble) c.trouble_reply-reply.result reading words _ _ c.deny-in-Err.result c.in-Err.ensures.held refl (ap plain c.trouble_reply-reply.ensures) c.deny-in-Err.ensures.behind
