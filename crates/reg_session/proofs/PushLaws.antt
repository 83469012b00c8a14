-- Manifests that are pushed.
use Rattle.std.proofs.Common.{◌≡◌, ℕ, true, List, [], ◌∷◌, Option, Some, None, Result, Ok, Err, MatchResult, refl, sym, subst}
use Rattle.std.specs.Io.KnownBytes.{Appends, IsAtEnd}
use Rattle.depot_api.specs.Ids.{Words}
use Rattle.http_wire.specs.declared.body.BodyState.{BodyState}
use Rattle.http_wire.specs.Bodies.{ends_before}
use Rattle.http_wire.specs.Filling.{within}
use Rattle.http_wire.specs.Flow.{OnStream}
use Rattle.http_wire.specs.Messages.{ReadsBody}
use Rattle.http_wire.proofs.StreamLaws.{on_same}
use Rattle.manifest_doc.specs.Pushed.{IsJudged}
use Rattle.manifest_doc.specs.declared.pushed.Pushed.{Pushed}
use Rattle.reg_names.specs.declared.reference.Reference.{Reference}
use Rattle.reg_entries.specs.declared.ask.Ask.TheVariants as asks
use Rattle.reg_entries.specs.declared.reply.Reply.{Reply}
use Rattle.reg_entries.specs.declared.trouble.Trouble.{Trouble}
use Rattle.reg_model.specs.Answers.{plain}
use Rattle.reg_world.specs.Worlds.{Data}
use Rattle.reg_world.specs.Moves.{pushes, seen_of}
use Rattle.reg_session.specs.declared.bodies.Dropped.{Dropped}
use Rattle.reg_session.specs.declared.bodies.Dropped.TheVariants as dropped
use Rattle.reg_session.specs.declared.ended.Ended.{Ended}
use Rattle.reg_session.specs.declared.ended.Step.{Step}
use Rattle.reg_session.specs.declared.ended.Step.TheVariants as steps
use Rattle.reg_session.specs.Answering.{trouble_reply}
use Rattle.reg_session.specs.Chains.{Hold, Own}
use Rattle.reg_session.specs.Holds.{Held}
use Rattle.reg_session.specs.InnerBodies.{DropsFront}
use Rattle.reg_session.specs.InnerGathering.{TakesManifest}
use Rattle.reg_session.specs.InnerReplies.{line_for, ConcludesSo}
use Rattle.reg_session.specs.InnerSteps.{Line, BreaksWith, broken, store, Responds}
use Rattle.reg_session.specs.Requests.{Parts, asked_in, body_state, limit_of, body_limit}
use Rattle.reg_session.specs.Turns.{RepliesTo, goes_on, MaySendBody, interim}
use Rattle.reg_session.specs.Works.{Begun, Wrote}
use Rattle.reg_session.proofs.ChainLaws.{hold_of, makes_none}
use Rattle.reg_session.proofs.DecidingLaws.{told}
use Rattle.reg_session.proofs.RespondLaws.{ask_goes, ask_limits, ask_replies, begun_plainly, breaks_plainly, front_behind_it, line_is_interim, may_come, whole_behind}

-- the front of a body that broke off, where the source tells it
front_pushed : (d : Dropped) (state : BodyState) (a b : Option (List ℕ)) → OnStream a b (TakesManifest (Err d) state) → (begin : List ℕ) × OnStream a b (DropsFront d (Some body_limit) state begin)
front_pushed d state None b h = ([], tt)
front_pushed d state (Some x) None h = absurd h
front_pushed d state (Some x) (Some y) h = h

-- its body may come, and is told to
module _ (p : Parts) (name : List ℕ) (at : Option Reference) (typed : Option (List ℕ)) (asked : asked_in p ≡ Ok (asks.PutManifest name at typed)) where
  push_goes : (holds : List Hold) → goes_on (asked_in p) holds ≡ true
  push_goes holds = ask_goes p (asks.PutManifest name at typed) holds asked refl

  push_may : (holds : List Hold) → MaySendBody p holds
  push_may holds = may_come p (asks.PutManifest name at typed) holds asked tt (push_goes holds)

  push_said : (a b : Option (List ℕ)) (holds : List Hold) → Appends a b (line_for p) → Appends a b (interim p holds)
  push_said a b holds said = subst (λ (t : List ℕ). Appends a b t) (line_is_interim p holds (push_goes holds)) said

  push_limit : Some body_limit ≡ limit_of p
  push_limit = ask_limits p (asks.PutManifest name at typed) asked

module _ {B : Type 0} (between : Data → Data → Type 0) (o : Own) (failed : Type 0) (p : Parts) (name : List ℕ) (at : Option Reference) (typed : Option (List ℕ))
    (asked : asked_in p ≡ Ok (asks.PutManifest name at typed)) (words : Words) (a b : Line) (mid : Option (List ℕ)) (said : Appends a.written mid (line_for p)) where
  -- it was pushed, and is answered
  pub pushed_responds : (pushed : Pushed) (w v : Data) (found : Result Reply Trouble) (reply : Reply) (bytes : List ℕ) (step : Step B) → IsJudged typed pushed.bytes pushed.judged
      → OnStream a.bytes b.bytes (TakesManifest (Ok pushed) (body_state p)) → Held between w (pushes name at pushed) (seen_of found) v
      → MatchResult found (λ r. reply ≡ r) (λ t. reply ≡ trouble_reply t) → bytes ≡ []
      → ConcludesSo failed p (record { reply = reply; content = bytes }) mid b.written step → Responds between o failed p (store w words) (store v words) a b step
  pushed_responds pushed w v found reply bytes step judged read held is none so =
      let h = hold_of (pushes name at pushed) (seen_of found) held in
      let answers : RepliesTo (asks.PutManifest name at typed) pushed.bytes (h ∷ []) (plain reply) =
      (record { pushed = pushed; bytes = refl; judged = judged; is = refl }, told found reply (plain reply) is refl refl) in
      record {
        holds = h ∷ [];
        makes = record { chain = (held.before, held.moves, held.behind); brings = (words, refl, refl) };
        behind = whole_behind failed p (h ∷ []) a b mid (push_said p name at typed asked a.written mid (h ∷ []) said) (push_may p name at typed asked (h ∷ [])) pushed.bytes reply bytes step
            (ask_replies p (asks.PutManifest name at typed) pushed.bytes (h ∷ []) (record { reply = reply; content = bytes }) asked
            (subst (λ (c : List ℕ). RepliesTo (asks.PutManifest name at typed) pushed.bytes (h ∷ []) (record { reply = reply; content = c })) (sym none) answers))
            (on_same a.bytes b.bytes read (λ x y r. subst (λ (l : Option ℕ). ReadsBody l (body_state p) x pushed.bytes (within (ends_before y))) (push_limit p name at typed asked) r)) so;
      }

  -- its body broke off
  pub unpushed_responds : (d : Dropped) (w : Data) (stopped : Ended B) → OnStream a.bytes b.bytes (TakesManifest (Err d) (body_state p)) → BreaksWith d stopped
      → ((begun : Begun) (start : Option (List ℕ)) → begun.parts ≡ p → Appends start mid (interim begun.parts begun.holds) → Wrote failed stopped start b.written (broken begun d))
      → (d ≡ dropped.Cut → IsAtEnd b.left) → Responds between o failed p (store w words) (store w words) a b (steps.Ended stopped)
  unpushed_responds d w stopped read breaks wrote over =
      let front = front_pushed d (body_state p) a.bytes b.bytes read in
      let begun : Begun = record { parts = p; begin = front.0; holds = [] } in
      record {
        holds = [];
        makes = makes_none between o (store w words);
        behind = front_behind_it failed p [] a b mid (push_said p name at typed asked a.written mid [] said) (push_may p name at typed asked []) front.0 d stopped (begun_plainly p front.0)
            (on_same a.bytes b.bytes front.1 (λ x y r. breaks_plainly begun d x y refl (subst (λ (l : Option ℕ). DropsFront d l (body_state p) front.0 x y) (push_limit p name at typed asked) r))) breaks wrote over;
      }
