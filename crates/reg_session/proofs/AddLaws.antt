-- What a request does once the session of its upload was given, and before.
use Rattle.std.proofs.Common.{◌≡◌, ℕ, ◌<◌, ◌≤◌, true, false, List, [], ◌∷◌, Option, Some, Ok, refl, sym, ap, subst, ◌∙◌, inl}
use Rattle.std.specs.Io.KnownBytes.{Appends, IsAtEnd}
use Rattle.depot_api.specs.Ids.{Words}
use Rattle.depot_api.specs.Stages.{Staged}
use Rattle.http_wire.specs.Bodies.{due}
use Rattle.http_wire.specs.Flow.{OnStream}
use Rattle.reg_claims.specs.declared.claim.Held.{Held as Claim}
use Rattle.reg_entries.specs.Numbers as numbers
use Rattle.reg_entries.specs.declared.ask.Ask.{Ask}
use Rattle.reg_entries.specs.declared.reply.Reply.{Reply}
use Rattle.reg_model.specs.Answers.{plain, refusal}
use Rattle.reg_replies.specs.Writing.{TookFront}
use Rattle.upload_sessions.specs.declared.taking.Taken.TheVariants as taken
use Rattle.reg_world.specs.Worlds.{Data}
use Rattle.reg_world.specs.Moves.{takes, shelves, Seen, gave, ended}
use Rattle.reg_session.specs.declared.bodies.Dropped.{Dropped}
use Rattle.reg_session.specs.declared.bodies.Dropped.TheVariants as dropped
use Rattle.reg_session.specs.declared.ended.Ended.{Ended}
use Rattle.reg_session.specs.declared.ended.Ended.TheVariants as ends
use Rattle.reg_session.specs.declared.ended.Step.{Step}
use Rattle.reg_session.specs.declared.ended.Step.TheVariants as steps
use Rattle.reg_session.specs.declared.gathering.Gathered.TheVariants as gathered
use Rattle.reg_session.specs.Answering.{AnswersAs}
use Rattle.reg_session.specs.Chains.{Hold, own}
use Rattle.reg_session.specs.Holds.{Held}
use Rattle.reg_session.specs.InnerGathering.{Grows, Gathers}
use Rattle.reg_session.specs.InnerReplies.{line_for, ConcludesSo}
use Rattle.reg_session.specs.InnerSteps.{Line, line, Behind, BreaksWith, broken, IsKnown, store, Responds}
use Rattle.reg_session.specs.InnerUploads.{Completes, HasSession, Adds}
use Rattle.reg_session.specs.Requests.{Parts, asked_in, awaits, body_state, limit_of, upload_limit}
use Rattle.reg_session.specs.Turns.{RepliesTo, MaySendBody, interim, gives_session}
use Rattle.reg_session.specs.Uploads.{upload_ask, Stages, GivesBack}
use Rattle.reg_session.specs.Works.{Begun, Wrote}
use Rattle.reg_session.proofs.ChainLaws.{hold_of, chain_more, spends_one}
use Rattle.reg_session.proofs.RespondLaws.{asked_as, ask_replies, front_behind_it, line_is_interim, unsaid_behind, whole_behind}
use Rattle.reg_session.proofs.UploadLaws.{back_replies, front_gathered, is_take, left_begun, left_none, session_goes, session_room, some_gathered, turned_down, upload_limited, whole_gathered}

-- a plain answer is one whose content is empty
of_plain : (ask : Ask) (body : List ℕ) (holds : List Hold) (reply : Reply) (bytes : List ℕ) → bytes ≡ [] → RepliesTo ask body holds (plain reply)
    → RepliesTo ask body holds (record { reply = reply; content = bytes })
of_plain ask body holds reply bytes none replies = subst (λ (c : List ℕ). RepliesTo ask body holds (record { reply = reply; content = c })) (sym none) replies

module _ (p : Parts) (digest : Option (List ℕ)) (h : Hold) (claim : Claim) (before : Staged) (session : HasSession p digest h claim before) where
  limited : limit_of p ≡ Some upload_limit
  limited =
      let up = session.upload in
      upload_limited p up.0 up.1 up.2 digest (session.asked ∙ ap asked_as up.3)

  said_so : (holds : List Hold) (a mid : Option (List ℕ)) → Appends a mid (line_for p) → Appends a mid (interim p (h ∷ holds))
  said_so holds a mid said = subst (Appends a mid) (line_is_interim p (h ∷ holds) (session_goes p digest h claim before session holds)) said

  told_to : (holds : List Hold) → MaySendBody p (h ∷ holds)
  told_to holds = record { looks = tt; told = λ _. session_goes p digest h claim before session holds }

module _ {B : Type 0} (between : Data → Data → Type 0) (failed : Type 0) (p : Parts) (digest : Option (List ℕ)) (h : Hold) (claim : Claim) (before : Staged)
    (session : HasSession p digest h claim before) (w v : Data) where
  -- the sink failed as it was told to go on
  pub add_unsaid : (faults : ℕ) (s left old new : Option (List ℕ)) → Held between w (shelves claim before faults) ended v → awaits p ≡ true → TookFront old new (line_for p)
      → Adds {B = B} between failed p w v (line s left old) (line s left new) h (steps.Ended ends.SinkFault)
  add_unsaid faults s left old new held waits took =
      let i = hold_of (shelves claim before faults) ended held in
      record {
        holds = i ∷ [];
        spends = spends_one between w v (shelves claim before faults) ended held (λ o words. refl);
        behind = unsaid_behind failed p (h ∷ i ∷ []) s left old new
            (left_none p session.ask h i claim before faults session.asked session.may session.gives (record { is = refl; seen = refl }))
            waits (session_goes p digest h claim before session (i ∷ [])) took;
      }

  -- the body came whole, and this is answered
  pub add_whole : (fails : Type 0) (after : Staged) (a b : Line) (mid : Option (List ℕ)) (reply : Reply) (bytes : List ℕ) (step : Step B) → Grows before after
      → OnStream a.bytes b.bytes (Gathers gathered.Whole fails (body_state p) before after)
      → ((body : List ℕ) → Stages before after body → Completes between w v session.ask body h reply)
      → Appends a.written mid (line_for p) → bytes ≡ [] → ConcludesSo failed p (record { reply = reply; content = bytes }) mid b.written step
      → Adds between failed p w v a b h step
  add_whole fails after a b mid reply bytes step grows read completes said none so =
      let body = whole_gathered fails (body_state p) (limit_of p) before after a.bytes b.bytes (limited p digest h claim before session) grows read in
      let done = completes body.0 body.1 in
      record {
        holds = done.holds;
        spends = done.spends;
        behind = whole_behind failed p (h ∷ done.holds) a b mid (said_so p digest h claim before session done.holds a.written mid said) (told_to p digest h claim before session done.holds) body.0 reply bytes step
            (ask_replies p session.ask body.0 (h ∷ done.holds) (record { reply = reply; content = bytes }) session.asked (of_plain session.ask body.0 (h ∷ done.holds) reply bytes none done.replies_so)) body.2 so;
      }

  -- it came whole, but the stage had failed
  pub add_failed : (fails : Type 0) (after : Staged) (faults : ℕ) (a b : Line) (mid : Option (List ℕ)) (reply : Reply) (bytes : List ℕ) (step : Step B) → Grows before after
      → OnStream a.bytes b.bytes (Gathers gathered.Failed fails (body_state p) before after)
      → Held between w (shelves claim after faults) ended v → 0 < faults → reply ≡ refusal numbers.storage_fault
      → Appends a.written mid (line_for p) → bytes ≡ [] → ConcludesSo failed p (record { reply = reply; content = bytes }) mid b.written step
      → Adds between failed p w v a b h step
  add_failed fails after faults a b mid reply bytes step grows read held some is said none so =
      let i = hold_of (shelves claim after faults) ended held in
      let body = some_gathered fails (body_state p) (limit_of p) before after a.bytes b.bytes (limited p digest h claim before session) grows read in
      let gives : GivesBack session.ask body.0 h i (plain reply) = record {
        held = claim;
        before = before;
        after = after;
        faults = faults;
        gives = session.gives;
        back = record { is = refl; seen = refl };
        so = inl (record { rose = some; some = body.1; is = ap plain is });
      } in
      record {
        holds = i ∷ [];
        spends = spends_one between w v (shelves claim after faults) ended held (λ o words. refl);
        behind = whole_behind failed p (h ∷ i ∷ []) a b mid (said_so p digest h claim before session (i ∷ []) a.written mid said) (told_to p digest h claim before session (i ∷ [])) body.0 reply bytes step
            (ask_replies p session.ask body.0 (h ∷ i ∷ []) (record { reply = reply; content = bytes }) session.asked
            (of_plain session.ask body.0 (h ∷ i ∷ []) reply bytes none (back_replies session.ask digest body.0 h i (plain reply) session.upload gives))) body.2 so;
      }

  -- it broke off
  pub add_broken : (d : Dropped) (after : Staged) (faults : ℕ) (a b : Line) (mid : Option (List ℕ)) (stopped : Ended B) → Grows before after
      → OnStream a.bytes b.bytes (Gathers (gathered.Broken d) (0 < faults) (body_state p) before after)
      → Held between w (shelves claim after faults) ended v → Appends a.written mid (line_for p) → BreaksWith d stopped
      → ((begun : Begun) (start : Option (List ℕ)) → begun.parts ≡ p → Appends start mid (interim begun.parts begun.holds) → Wrote failed stopped start b.written (broken begun d))
      → (d ≡ dropped.Cut → IsAtEnd b.left) → Adds between failed p w v a b h (steps.Ended stopped)
  add_broken d after faults a b mid stopped grows read held said breaks wrote over =
      let i = hold_of (shelves claim after faults) ended held in
      let front = front_gathered d p (h ∷ i ∷ []) before after faults a.bytes b.bytes (session_room p digest h claim before session (limit_of p) (i ∷ [])) (λ x. x) grows read in
      record {
        holds = i ∷ [];
        spends = spends_one between w v (shelves claim after faults) ended held (λ o words. refl);
        behind = front_behind_it failed p (h ∷ i ∷ []) a b mid (said_so p digest h claim before session (i ∷ []) a.written mid said) (told_to p digest h claim before session (i ∷ [])) front.0 d stopped
            (left_begun p session.ask h i claim before after faults session.asked session.may session.gives (record { is = refl; seen = refl }) front.0 front.1) front.2 breaks wrote over;
      }

-- ---- the hold that takes the session

module _ {B : Type 0} (between : Data → Data → Type 0) (failed : Type 0) (p : Parts) (name : List ℕ) (id : Option (List ℕ)) (start : Option ℕ) (digest : Option (List ℕ)) (who : ℕ)
    (asked : asked_in p ≡ Ok (upload_ask name id start digest)) (short : due (body_state p) ≤ upload_limit) (w m : Data) where
  -- it was given, and the request goes on so
  pub given_responds : (claim : Claim) (before : Staged) (offset : ℕ) (reading : Option ℕ) (words : Words) (v : Data) (a b : Line) (step : Step B)
      → Held between w (takes who name id start) (gave (taken.Out claim before offset)) m
      → ((h : Hold) → HasSession p digest h claim before → Adds between failed p m v a b h step)
      → Responds between (own who reading) failed p (store w words) (store v words) a b step
  given_responds claim before offset reading words v a b step held adds =
      let h = hold_of (takes who name id start) (gave (taken.Out claim before offset)) held in
      let added = adds h (record {
        ask = upload_ask name id start digest;
        asked = asked;
        upload = (name, id, start, refl);
        may = short;
        gives = record { offset = offset; took = is_take (upload_ask name id start digest) name id start digest who refl; given = refl };
      }) in
      record {
        holds = h ∷ added.holds;
        makes = record {
          chain = chain_more between w m v (takes who name id start) (gave (taken.Out claim before offset)) added.holds held added.spends.chain;
          brings = (words, (refl, refl), added.spends.brings (own who reading) words);
        };
        behind = added.behind;
      }

  -- it was not
  pub refused_responds : (seen : Seen) (reply : Reply) (reading : Option ℕ) (words : Words) (a b : Line) (step : Step B) → Held between w (takes who name id start) seen m
      → gives_session seen ≡ false → AnswersAs seen (plain reply) → ((holds : List Hold) → IsKnown p holds reply → Behind failed p a b holds step)
      → Responds between (own who reading) failed p (store w words) (store m words) a b step
  refused_responds seen reply reading words a b step held silent so behind =
      let h = hold_of (takes who name id start) seen held in
      record {
        holds = h ∷ [];
        makes = record { chain = (held.before, held.moves, held.behind); brings = (words, (refl, refl), refl) };
        behind = behind (h ∷ []) (turned_down p name id start digest who h reply asked short refl silent so);
      }
