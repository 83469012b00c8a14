-- Requests that add their body to an upload.
use Rattle.std.proofs.Common.{◌≡◌, ℕ, ◌-◌, ◌<◌, ◌≤◌, true, false, List, [], ◌∷◌, Option, Some, None, Ok, refl, sym, ap, subst, ◌∙◌, append-nil, arith, inl, inr}
use Rattle.std.proofs.lemmas.Bool.{false≢true}
use Rattle.depot_api.specs.Stages.{Staged}
use Rattle.depot_api.specs.declared.stage.Stage.{Ghosts}
use Rattle.http_wire.specs.declared.body.BodyState.{BodyState}
use Rattle.http_wire.specs.Bodies.{ends_before, due}
use Rattle.http_wire.specs.Filling.{within, is_too_long, passes}
use Rattle.http_wire.specs.Flow.{OnStream}
use Rattle.http_wire.specs.Messages.{ReadsBody}
use Rattle.http_wire.proofs.StreamLaws.{on_same}
use Rattle.reg_claims.specs.declared.claim.Held.{Held as Claim}
use Rattle.reg_entries.specs.Numbers as numbers
use Rattle.reg_entries.specs.declared.ask.Ask.{Ask}
use Rattle.reg_entries.specs.declared.reply.Reply.{Reply}
use Rattle.reg_model.specs.Answers.{Answer, plain}
use Rattle.upload_sessions.specs.declared.finish.Finish.{Finish}
use Rattle.upload_sessions.specs.declared.finish.Finish.TheVariants.{Done, Back, Failed}
use Rattle.upload_sessions.specs.declared.sealed.Sealed.{Sealed}
use Rattle.upload_sessions.specs.declared.taking.Taken.TheVariants as taken
use Rattle.files_service.specs.Finishing.{IsBack}
use Rattle.reg_world.specs.Moves.{Act, takes, Seen, gave}
use Rattle.reg_session.specs.declared.bodies.Dropped.{Dropped}
use Rattle.reg_session.specs.declared.bodies.Dropped.TheVariants as dropped
use Rattle.reg_session.specs.declared.gathering.Gathered.TheVariants as gathered
use Rattle.reg_session.specs.Answering.{AnswersAs}
use Rattle.reg_session.specs.Chains.{Hold}
use Rattle.reg_session.specs.InnerBodies.{DropsFront}
use Rattle.reg_session.specs.InnerGathering.{Grows, BreaksOffIn, Gathers}
use Rattle.reg_session.specs.InnerSteps.{line, TookBehind, EndsOnBehind, Behind, IsKnown}
use Rattle.reg_session.specs.InnerUploads.{IsUpload, HasSession, IsBackOf}
use Rattle.reg_session.specs.Requests.{Parts, asked_in, body_state, limit_of, limit_of_ask, upload_limit}
use Rattle.reg_session.specs.Turns.{RepliesTo, gives_session, is_given, goes_on_for, goes_on, interim}
use Rattle.reg_session.specs.Uploads.{upload_ask, IsTake, TurnsDown, Gives, room_left, Stages, StagesSome, IsGivenBack, GivesBack, FinishesWith, StagesRead}
use Rattle.reg_session.specs.Works.{Begun, Work, refused, room_of, room_by, room_in, HasFailedStage, MayHold, IsBegun, EndsWith, LeavesNothing, Wrote}
use Rattle.reg_session.specs.declared.ended.Ended.{Ended}
use Rattle.reg_session.specs.declared.ended.Ended.TheVariants as ends
use Rattle.reg_session.specs.declared.ended.Step.TheVariants as steps
use Rattle.reg_session.specs.InnerReplies.{RefusesWith}
use Rattle.reg_session.proofs.ExchangeLaws.{only_begun}
use Rattle.reg_session.proofs.GatheringLaws.{fills_more, some_staged, all_some}
use Rattle.reg_session.proofs.RespondLaws.{asked_as, BreaksHere, ask_leaves, ask_limits, ask_replies, begun_plainly, none_said, refused_some}

-- ---- the session

take_by : (name : List ℕ) (id : Option (List ℕ)) (start : Option ℕ) (digest : Option (List ℕ)) (who : ℕ) → IsTake (upload_ask name id start digest) (takes who name id start)
take_by name id start None who = (who, refl)
take_by name id start (Some digest) who = (who, refl)

-- an upload's take is that of its ask
pub is_take : (ask : Ask) (name : List ℕ) (id : Option (List ℕ)) (start : Option ℕ) (digest : Option (List ℕ)) (who : ℕ) → ask ≡ upload_ask name id start digest
    → IsTake ask (takes who name id start)
is_take ask name id start digest who is = subst (λ (a : Ask). IsTake a (takes who name id start)) (sym is) (take_by name id start digest who)

goes_by : (name : List ℕ) (id : Option (List ℕ)) (start : Option ℕ) (digest : Option (List ℕ)) (holds : List Hold) → goes_on_for (upload_ask name id start digest) holds ≡ is_given holds
goes_by name id start None holds = refl
goes_by name id start (Some digest) holds = refl

-- a request is told to go on where its session was given
pub upload_goes : (p : Parts) (name : List ℕ) (id : Option (List ℕ)) (start : Option ℕ) (digest : Option (List ℕ)) (holds : List Hold) → asked_in p ≡ Ok (upload_ask name id start digest)
    → goes_on (asked_in p) holds ≡ is_given holds
upload_goes p name id start digest holds asked = ap (λ a. goes_on a holds) asked ∙ goes_by name id start digest holds

module _ (p : Parts) (digest : Option (List ℕ)) (h : Hold) (claim : Claim) (before : Staged) (session : HasSession p digest h claim before) where
  asked_upload : asked_in p ≡ Ok (upload_ask session.upload.0 session.upload.1 session.upload.2 digest)
  asked_upload = session.asked ∙ ap asked_as session.upload.3

  pub session_goes : (holds : List Hold) → goes_on (asked_in p) (h ∷ holds) ≡ true
  session_goes holds = upload_goes p session.upload.0 session.upload.1 session.upload.2 digest (h ∷ holds) asked_upload ∙ ap gives_session session.gives.given

  pub session_room : (limit : Option ℕ) (holds : List Hold) → room_by limit (h ∷ holds) ≡ Some (room_left before)
  session_room limit holds = ap (room_of limit) session.gives.given

-- ---- answers

-- what is answered with two holds is as of either ask
two_replies : (name : List ℕ) (id : Option (List ℕ)) (start : Option ℕ) (digest : Option (List ℕ)) (body : List ℕ) (h i : Hold) (answer : Answer)
    → GivesBack (upload_ask name id start digest) body h i answer → RepliesTo (upload_ask name id start digest) body (h ∷ i ∷ []) answer
two_replies name id start None body h i answer gives = gives
two_replies name id start (Some digest) body h i answer gives = gives

pub back_replies : (ask : Ask) (digest : Option (List ℕ)) (body : List ℕ) (h i : Hold) (answer : Answer) → IsUpload ask digest → GivesBack ask body h i answer
    → RepliesTo ask body (h ∷ i ∷ []) answer
back_replies ask digest body h i answer (name, id, start, is) gives =
    subst (λ (a : Ask). RepliesTo a body (h ∷ i ∷ []) answer) (sym is)
    (two_replies name id start digest body h i answer (subst (λ (a : Ask). GivesBack a body h i answer) is gives))

pub finish_replies : (ask : Ask) (digest body : List ℕ) (h i j : Hold) (answer : Answer) → IsUpload ask (Some digest) → FinishesWith ask digest body h i j answer
    → RepliesTo ask body (h ∷ i ∷ j ∷ []) answer
finish_replies ask digest body h i j answer (name, id, start, is) finishes =
    subst (λ (a : Ask). RepliesTo a body (h ∷ i ∷ j ∷ []) answer) (sym is) (subst (λ (a : Ask). FinishesWith a digest body h i j answer) is finishes)

down_replies : (name : List ℕ) (id : Option (List ℕ)) (start : Option ℕ) (digest : Option (List ℕ)) (body : List ℕ) (h : Hold) (answer : Answer)
    → TurnsDown (upload_ask name id start digest) h answer → RepliesTo (upload_ask name id start digest) body (h ∷ []) answer
down_replies name id start None body h answer down = down
down_replies name id start (Some digest) body h answer down = down

-- ---- a session that was not given

not_given : (limit : Option ℕ) (seen : Seen) → gives_session seen ≡ false → room_of limit seen ≡ limit
not_given limit (gave (taken.Out held staged offset)) is = absurd (false≢true (sym is))
not_given limit (gave (taken.Refused reply)) is = refl
not_given limit seen is = refl

-- the refusal of the upload is known before the body
pub turned_down : (p : Parts) (name : List ℕ) (id : Option (List ℕ)) (start : Option ℕ) (digest : Option (List ℕ)) (who : ℕ) (h : Hold) (reply : Reply)
    → asked_in p ≡ Ok (upload_ask name id start digest) → due (body_state p) ≤ upload_limit → h.act ≡ takes who name id start
    → gives_session h.seen ≡ false → AnswersAs h.seen (plain reply) → IsKnown p (h ∷ []) reply
turned_down p name id start digest who h reply asked short act silent so =
    let ask = upload_ask name id start digest in
    let down : TurnsDown ask h (plain reply) = record { took = subst (λ (a : Act). IsTake ask a) (sym act) (take_by name id start digest who); so = so } in
    record {
      silent = upload_goes p name id start digest (h ∷ []) asked ∙ silent;
      looks = tt;
      may = short;
      room = not_given (limit_of p) h.seen silent;
      replies_so = λ body. ask_replies p ask body (h ∷ []) (plain reply) asked (down_replies name id start digest body h (plain reply) down);
      leaves = λ begin. ask_leaves p ask begin (h ∷ []) asked (plain reply, down);
    }

-- ---- what came of the body

no_bytes : (before : Staged) → Stages before before []
no_bytes before = record { path = refl; tells = refl; gains = (omega arith, λ _. sym (append-nil before.bytes)); room = omega arith }

module _ (p : Parts) (ask : Ask) (h i : Hold) (claim : Claim) (before after : Staged) (faults : ℕ) (asked : asked_in p ≡ Ok ask) (may : MayHold p (h ∷ []))
    (gives : Gives ask h claim before) (back : IsGivenBack claim after faults i) where
  -- the session was given back with what was read
  pub left_begun : (begin : List ℕ) → StagesRead before after faults begin → IsBegun (record { parts = p; begin = begin; holds = h ∷ i ∷ [] })
  left_begun begin stages = record {
    may = may;
    leaves = ask_leaves p ask begin (h ∷ i ∷ []) asked (record { held = claim; before = before; after = after; faults = faults; gives = gives; back = back; stages = stages });
  }

-- and with nothing
pub left_none : (p : Parts) (ask : Ask) (h i : Hold) (claim : Claim) (before : Staged) (faults : ℕ) → asked_in p ≡ Ok ask → MayHold p (h ∷ []) → Gives ask h claim before
    → IsGivenBack claim before faults i → IsBegun (record { parts = p; begin = []; holds = h ∷ i ∷ [] })
left_none p ask h i claim before faults asked may gives back =
    left_begun p ask h i claim before before faults asked may gives back [] (inl (no_bytes before))

pub not_long : (most n : ℕ) → (most < n → ⊥) → n ≤ most
not_long most n few = omega (arith, few)

less_than : (a b : ℕ) → a - b ≤ a
less_than a b = omega arith

less_room : (before : Staged) → room_left before ≤ upload_limit
less_room before = less_than upload_limit before.count

-- all of a body came
pub whole_gathered : (failed : Type 0) (state : BodyState) (limit : Option ℕ) (before now : Staged) (a b : Option (List ℕ)) → limit ≡ Some upload_limit → Grows before now
    → OnStream a b (Gathers gathered.Whole failed state before now)
    → (body : List ℕ) × Stages before now body × OnStream a b (λ old new. ReadsBody limit state old body (within (ends_before new)))
whole_gathered failed state limit before now None b is grows h = let some = some_staged before now grows in (some.0, some.1, tt)
whole_gathered failed state limit before now (Some x) None is grows h = absurd h
whole_gathered failed state limit before now (Some x) (Some y) is grows (body, run, stages) =
    (body, stages, subst (λ (l : Option ℕ). ReadsBody l state x body (within (ends_before y))) (sym is) (fills_more (room_left before) upload_limit state x body (within (ends_before y)) (ends_before y) (less_room before) refl run))

-- it came whole, and some of it is there
pub some_gathered : (failed : Type 0) (state : BodyState) (limit : Option ℕ) (before now : Staged) (a b : Option (List ℕ)) → limit ≡ Some upload_limit → Grows before now
    → OnStream a b (Gathers gathered.Failed failed state before now)
    → (body : List ℕ) × StagesSome before now body × OnStream a b (λ old new. ReadsBody limit state old body (within (ends_before new)))
some_gathered failed state limit before now None b is grows h = let some = some_staged before now grows in (some.0, all_some before now some.0 grows some.1, tt)
some_gathered failed state limit before now (Some x) None is grows h = absurd h
some_gathered failed state limit before now (Some x) (Some y) is grows (body, run, stages) =
    (body, stages, subst (λ (l : Option ℕ). ReadsBody l state x body (within (ends_before y))) (sym is) (fills_more (room_left before) upload_limit state x body (within (ends_before y)) (ends_before y) (less_room before) refl run))

-- it broke off
module _ (p : Parts) (begin : List ℕ) (holds : List Hold) (few : ℕ) (room : room_by (limit_of p) holds ≡ Some few) where
  abbrev here : Begun
  here = record { parts = p; begin = begin; holds = holds }

  -- what was read keeps the room of the session
  roomed : (d : Dropped) (old new : List ℕ) → DropsFront d (Some few) (body_state p) begin old new → DropsFront d (room_in here) (body_state p) begin old new
  roomed d old new h = subst (λ (l : Option ℕ). DropsFront d l (body_state p) begin old new) (sym room) h

  front_breaks : (d : Dropped) (old new : List ℕ) → DropsFront d (Some few) (body_state p) begin old new → BreaksHere here d old new
  front_breaks dropped.Whole old new h = roomed dropped.Whole old new h
  front_breaks dropped.TooLong old new h = inl (refl, roomed dropped.TooLong old new h)
  front_breaks dropped.Cut old new h = roomed dropped.Cut old new h
  front_breaks dropped.Malformed old new h = roomed dropped.Malformed old new h
  front_breaks dropped.SourceFault old new h = roomed dropped.SourceFault old new h
  front_breaks dropped.Long old new h = roomed dropped.Long old new h
  front_breaks dropped.NoMemory old new h = roomed dropped.NoMemory old new h

  failed_breaks : (d : Dropped) (old new : List ℕ) → HasFailedStage holds → BreaksOffIn d few (body_state p) begin old new → BreaksHere here d old new
  failed_breaks dropped.Whole old new failed h = roomed dropped.Whole old new h
  failed_breaks dropped.TooLong old new failed h = inr (inl (refl, failed, (h.0, roomed dropped.Long old h.0 h.1)))
  failed_breaks dropped.Cut old new failed h = roomed dropped.Cut old new h
  failed_breaks dropped.Malformed old new failed h = roomed dropped.Malformed old new h
  failed_breaks dropped.SourceFault old new failed h = roomed dropped.SourceFault old new h
  failed_breaks dropped.Long old new failed h = roomed dropped.Long old new h
  failed_breaks dropped.NoMemory old new failed h = roomed dropped.NoMemory old new h

-- the front of a body that broke off, what the session has of it, and how it broke off
pub front_gathered : (d : Dropped) (p : Parts) (holds : List Hold) (before now : Staged) (faults : ℕ) (a b : Option (List ℕ))
    → room_by (limit_of p) holds ≡ Some (room_left before) → (0 < faults → HasFailedStage holds) → Grows before now
    → OnStream a b (Gathers (gathered.Broken d) (0 < faults) (body_state p) before now)
    → (begin : List ℕ) × StagesRead before now faults begin × OnStream a b (BreaksHere (record { parts = p; begin = begin; holds = holds }) d)
front_gathered d p holds before now faults None b room failed grows h = let some = some_staged before now grows in (some.0, inl some.1, tt)
front_gathered d p holds before now faults (Some x) None room failed grows h = absurd h
front_gathered d p holds before now faults (Some x) (Some y) room failed grows (begin, inl (drops, stages)) =
    (begin, inl stages, front_breaks p begin holds (room_left before) room d x y drops)
front_gathered d p holds before now faults (Some x) (Some y) room failed grows (begin, inr (is, breaks)) =
    let some = some_staged before now grows in
    (begin, inr (is, (some.0, all_some before now some.0 grows some.1)), failed_breaks p begin holds (room_left before) room d x y (failed is) breaks)

-- ---- a Content-Length that is too large

long_at_once : (p : Parts) (s : Option (List ℕ)) → limit_of p ≡ Some upload_limit → upload_limit < due (body_state p)
    → OnStream s s (TookBehind p (refused (only_begun p []) numbers.body_too_large))
long_at_once p None limited long = tt
long_at_once p (Some x) limited long =
    (refl, inl (refl, subst (λ (l : Option ℕ). ReadsBody l (body_state p) x [] is_too_long) (sym limited) (passes upload_limit (body_state p) x [] is_too_long long refl refl)))

abbrev pub too_long : Parts → Work
too_long p = refused (only_begun p []) numbers.body_too_large

module _ {B : Type 0} (failed : Type 0) (p : Parts) (stream left old new : Option (List ℕ)) (limited : limit_of p ≡ Some upload_limit) (silent : goes_on (asked_in p) [] ≡ false) (long : upload_limit < due (body_state p)) where
  ended_long : (ended : Ended B) → EndsWith ended (too_long p) → LeavesNothing ended (too_long p) left → ((bytes : List ℕ) → EndsOnBehind ended (too_long p) bytes)
      → Wrote failed ended old new (too_long p) → Behind failed p (line stream left old) (line stream left new) [] (steps.Ended ended)
  ended_long ended so over on wrote = (
    too_long p,
    refl,
    record {
      done = record { begun = begun_plainly p []; told = inr (record { number = refl; none_held = refl; silent = silent; long = long }) };
      ends = so;
      read = on_same stream stream (long_at_once p stream limited long) (λ x y r. (r, on x));
      at_end = over;
      wrote = wrote;
    },
  )

  pub long_behind : (ended : Ended B) → RefusesWith numbers.body_too_large ended → Wrote failed ended old new (too_long p)
      → Behind failed p (line stream left old) (line stream left new) [] (steps.Ended ended)
  long_behind ends.Done so wrote = absurd so
  long_behind (ends.Refused m) so wrote = ended_long (ends.Refused m) so tt (λ _. tt) wrote
  long_behind ends.Cut so wrote = absurd so
  long_behind ends.SourceFault so wrote = absurd so
  long_behind ends.SinkFault so wrote = ended_long ends.SinkFault (refused_some (only_begun p []) numbers.body_too_large) tt (λ _. tt) wrote
  long_behind (ends.BlobFault blob) so wrote = absurd so
  long_behind ends.Long so wrote = absurd so
  long_behind ends.NoMemory so wrote = ended_long ends.NoMemory tt tt (λ _. tt) wrote

-- nothing is said before any hold
pub unsaid : (p : Parts) (name : List ℕ) (id : Option (List ℕ)) (start : Option ℕ) (digest : Option (List ℕ)) → asked_in p ≡ Ok (upload_ask name id start digest) → interim p [] ≡ []
unsaid p name id start digest asked = none_said p [] (upload_goes p name id start digest [] asked)

limit_by_ask : (name : List ℕ) (id : Option (List ℕ)) (start : Option ℕ) (digest : Option (List ℕ)) → limit_of_ask (upload_ask name id start digest) ≡ upload_limit
limit_by_ask name id start None = refl
limit_by_ask name id start (Some digest) = refl

pub upload_limited : (p : Parts) (name : List ℕ) (id : Option (List ℕ)) (start : Option ℕ) (digest : Option (List ℕ)) → asked_in p ≡ Ok (upload_ask name id start digest)
    → limit_of p ≡ Some upload_limit
upload_limited p name id start digest asked = sym (ask_limits p (upload_ask name id start digest) asked) ∙ ap Some (limit_by_ask name id start digest)

-- ---- finishes

-- what comes back of a finish, by what is staged
pub back_of : {S : Type 0} {g : Ghosts S} (staged : S → Staged) (claim : Claim) (sealed : Sealed S g) (finished : Finish S g) → IsBack claim sealed finished
    → IsBackOf staged claim (staged sealed.stage) finished
back_of staged claim sealed (Done held reply) back = back
back_of {S} {g} staged claim sealed (Back held same reply) back = (back.0, ap (λ (s : Sealed S g). staged s.stage) back.1)
back_of {S} {g} staged claim sealed (Failed held (Some same) trouble) back = (back.0, ap (λ (s : Sealed S g). staged s.stage) back.1)
back_of staged claim sealed (Failed held None trouble) back = (back, tt)
