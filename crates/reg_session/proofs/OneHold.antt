-- One act in one world, whose depot tells what it holds: it is seen in one way, and leaves one world, where no device
-- fails and memory is there.
use Rattle.std.proofs.Common.{◌≡◌, ℕ, Bool, true, false, List, [], length, Option, Some, None, Result, Ok, Err, refl, sym, ap, subst, ◌∙◌}
use Rattle.std.specs.Prelude.{IsTrue, ⊤}
use Rattle.std.proofs.lemmas.Bool.{false≢true}
use Rattle.reg_names.specs.declared.reference.Reference.{Reference}
use Rattle.reg_names.specs.declared.reference.Reference.TheVariants.{Tag, Digest}
use Rattle.depot_api.specs.Changes.{IsLentOf}
use Rattle.depot_api.specs.Holdings.{Holding}
use Rattle.depot_api.specs.Stages.{Staged}
use Rattle.manifest_doc.specs.declared.pushed.Judged.{Judged}
use Rattle.manifest_doc.specs.declared.pushed.Judged.TheVariants.{Good, Bad}
use Rattle.manifest_doc.specs.declared.pushed.Pushed.{Pushed}
use Rattle.reg_claims.specs.Claims.{ClaimList}
use Rattle.reg_claims.specs.Holding.{is_full}
use Rattle.reg_claims.specs.declared.claim.Held.{Held}
use Rattle.reg_entries.specs.Numbers.{blob_unknown, manifest_unknown}
use Rattle.reg_entries.specs.State.{State}
use Rattle.reg_entries.specs.declared.ask.Ask.{Ask}
use Rattle.reg_entries.specs.declared.reply.Reply.{Reply}
use Rattle.reg_entries.specs.declared.reply.Reply.TheVariants as replies
use Rattle.reg_entries.specs.declared.trouble.Trouble.{Trouble}
use Rattle.reg_entries.specs.declared.trouble.Trouble.TheVariants as troubles
use Rattle.reg_model.specs.Answers.{Answer, IsAnswer}
use Rattle.reg_model.specs.Changing.{Outcome, Lacks, Starts, PushesJudged, Pushes, UnlinksBy, Unlinks, UntagsBy, DropsBy, Drops, HasOneOutcome}
use Rattle.reg_model.specs.Facts.{Facts}
use Rattle.reg_model.specs.Uploads.{met_from, state_reply, cancel_reply}
use Rattle.reg_model.proofs.AnswerLaws.{answer_alone}
use Rattle.reg_model.proofs.ChangingLaws.{starts_alone, pushes_alone, unlinks_alone, drops_alone}
use Rattle.files_service.specs.Answers.{IsOfFiles}
use Rattle.files_service.specs.Changing.{Serves, with_changes, files_of_all}
use Rattle.files_service.specs.Facts.{facts_of}
use Rattle.files_service.specs.Finishing.{Ending, EndsUpload}
use Rattle.files_service.specs.Finishing as endings
use Rattle.upload_sessions.specs.Closing.{IsCancelReply, Cancels, CancelsAt}
use Rattle.upload_sessions.specs.InnerTaking.{IsOutOf}
use Rattle.upload_sessions.specs.Meeting.{Meets, IsStateReply}
use Rattle.upload_sessions.specs.Taking.{MeetsFrom, Takes, LendsSession, ClaimsSession}
use Rattle.upload_sessions.specs.declared.taking.Taken.{Taken}
use Rattle.upload_sessions.specs.declared.taking.Taken.TheVariants as taken
use Rattle.upload_sessions.proofs.MeetingLaws.{met_is_there}
use Rattle.reg_world.specs.Worlds.{Data, facts}
use Rattle.reg_world.specs.Moves.{Act, answers, starts, pushes, drops, unlinks, locates, takes, shelves, cancels, finishes, releases, closes, Seen, replied, failed, gave, came_to, ended, Stays, ChangesBy, AnswersBy, LocatesBy, TakesBy, CancelsBy, FinishesBy, ClosesBy, Move, IsFaulty, FitsAct}
use Rattle.reg_world.proofs.MoveLaws.{data_of}

-- ---- what is one

-- worlds that differ at most in the count of faults
pub record Same (w u : Data) : Type 0 where
  pub held : w.held ≡ u.held
  pub claims : w.claims ≡ u.claims

-- two holds were seen alike, and left the same
pub record AreOne (seen other : Seen) (v z : Data) : Type 0 where
  pub seen_so : seen ≡ other
  pub left : Same v z

-- memory was not wanting
abbrev pub HasMemory : Seen → Type 0
HasMemory (failed troubles.NoMemory) = ⊥
HasMemory (came_to (endings.failed back troubles.NoMemory)) = ⊥
HasMemory seen = ⊤

-- an act was seen so where no device failed, and memory was there
pub record IsSound (act : Act) (seen : Seen) : Type 0 where
  pub fits : FitsAct act seen
  pub calm : IsFaulty act seen → ⊥
  pub memory : HasMemory seen

-- ---- no trouble

no_failure : (Faulty : Trouble → Type 0) (trouble : Trouble) → IsOfFiles trouble → Faulty troubles.Depot → (Faulty trouble → ⊥) → HasMemory (failed trouble) → ⊥
no_failure Faulty troubles.Depot fits is calm memory = calm is
no_failure Faulty troubles.Keeper fits is calm memory = fits
no_failure Faulty troubles.Full fits is calm memory = fits
no_failure Faulty troubles.NoMemory fits is calm memory = memory

-- an act that takes a session
abbrev IsTaking : Act → Type 0
IsTaking (takes who name id start) = ⊤
IsTaking act = ⊥

no_trouble : (act : Act) (trouble : Trouble) (w v : Data) → (IsTaking act → ⊥) → IsSound act (failed trouble) → Move w act (failed trouble) v → ⊥
no_trouble (answers ask) t w v other s move = no_failure (λ u. IsFaulty (answers ask) (failed u)) t s.fits tt s.calm s.memory
no_trouble (starts name mount id now) t w v other s move = no_failure (λ u. IsFaulty (starts name mount id now) (failed u)) t s.fits tt s.calm s.memory
no_trouble (pushes name at pushed) t w v other s move = no_failure (λ u. IsFaulty (pushes name at pushed) (failed u)) t s.fits tt s.calm s.memory
no_trouble (drops name at) t w v other s move = no_failure (λ u. IsFaulty (drops name at) (failed u)) t s.fits tt s.calm s.memory
no_trouble (unlinks name digest) t w v other s move = no_failure (λ u. IsFaulty (unlinks name digest) (failed u)) t s.fits tt s.calm s.memory
no_trouble (locates name id) t w v other s move = no_failure (λ u. IsFaulty (locates name id) (failed u)) t s.fits tt s.calm s.memory
no_trouble (takes who name id start) t w v other s move = other tt
no_trouble (shelves held staged faults) t w v other s move = move
no_trouble (cancels name id) t w v other s move = no_failure (λ u. IsFaulty (cancels name id) (failed u)) t s.fits tt s.calm s.memory
no_trouble (finishes held staged digest) t w v other s move = move
no_trouble (releases held) t w v other s move = move
no_trouble (closes held) t w v other s move = no_failure (λ u. IsFaulty (closes held) (failed u)) t s.fits tt s.calm s.memory

abbrev IsUntroubled : Seen → Type 0
IsUntroubled seen = (trouble : Trouble) → seen ≡ failed trouble → ⊥

pub untroubled : (act : Act) (seen : Seen) (w v : Data) → (IsTaking act → ⊥) → IsSound act seen → Move w act seen v → IsUntroubled seen
untroubled act seen w v other s move trouble is =
    no_trouble act trouble w v other (subst (λ (x : Seen). IsSound act x) is s) (subst (λ (x : Seen). Move w act x v) is move)

-- ---- what is seen of each act

answered : (ask : Ask) (w v : Data) (seen : Seen) → IsUntroubled seen → AnswersBy ask w seen v
    → (a : Answer) × (seen ≡ replied a) × (IsTrue w.held.tells → IsAnswer (facts w) ask a) × Stays w v
answered ask w v (replied a) fine h = (a, refl, h.0, h.1)
answered ask w v (failed t) fine h = absurd (fine t refl)
answered ask w v (gave g) fine h = absurd h
answered ask w v (came_to e) fine h = absurd h
answered ask w v ended fine h = absurd h

changed : (Comes : Type 0 → Facts → Outcome → Type 0) (w v : Data) (seen : Seen) → IsUntroubled seen → ChangesBy Comes w seen v
    → (a : Answer) × (seen ≡ replied a) × (a.content ≡ []) × Serves {E = Trouble} Comes (Ok a.reply) w.held v.held × (v.claims ≡ w.claims)
changed Comes w v (replied a) fine h = (a, refl, h.0, h.1, h.2)
changed Comes w v (failed t) fine h = absurd (fine t refl)
changed Comes w v (gave g) fine h = absurd h
changed Comes w v (came_to e) fine h = absurd h
changed Comes w v ended fine h = absurd h

located : (name : List ℕ) (id : Option (List ℕ)) (w v : Data) (seen : Seen) → IsUntroubled seen → LocatesBy name id w seen v
    → (a : Answer) × (seen ≡ replied a) × (a.content ≡ []) × IsStateReply w.held w.claims name id a.reply × Stays w v
located name id w v (replied a) fine h = (a, refl, h.0, h.1, h.2)
located name id w v (failed t) fine h = absurd (fine t refl)
located name id w v (gave g) fine h = absurd h
located name id w v (came_to e) fine h = absurd h
located name id w v ended fine h = absurd h

-- a session is given or refused, or it is free and numbers of claims have ended
data Took (who : ℕ) (name : List ℕ) (id : Option (List ℕ)) (start : Option ℕ) (w : Data) (seen : Seen) (v : Data) : Type 0 where
  gives_it : (given : Taken Staged) → seen ≡ gave given → Takes (λ staged. staged) w.held w.claims name id start given → LendsSession {S = Staged} (Ok given) w.held v.held
      → ClaimsSession {S = Staged} who w.claims (Ok given) v.claims → Took who name id start w seen v
  numbers_end : (met : List ℕ × ℕ) → seen ≡ failed troubles.Full → MeetsFrom w.held w.claims name id start (Ok met) → is_full w.claims ≡ true → Stays w v → Took who name id start w seen v

took : (who : ℕ) (name : List ℕ) (id : Option (List ℕ)) (start : Option ℕ) (w v : Data) (seen : Seen) → IsSound (takes who name id start) seen → TakesBy who name id start w seen v
    → Took who name id start w seen v
took who name id start w v (replied a) s h = absurd h
took who name id start w v (failed troubles.Depot) s h = absurd (s.calm tt)
took who name id start w v (failed troubles.Keeper) s h = absurd s.fits
took who name id start w v (failed troubles.Full) s h = numbers_end h.0.0 refl h.0.1 h.2.0 (record { held = h.1; claims = h.2.1 })
took who name id start w v (failed troubles.NoMemory) s h = absurd s.memory
took who name id start w v (gave given) s h = gives_it given refl h.0 h.1 h.2
took who name id start w v (came_to e) s h = absurd h
took who name id start w v ended s h = absurd h

cancelled : (name : List ℕ) (id : Option (List ℕ)) (w v : Data) (seen : Seen) → IsUntroubled seen → CancelsBy name id w seen v
    → (a : Answer) × (seen ≡ replied a) × (a.content ≡ []) × IsCancelReply w.held w.claims name id a.reply
    × Cancels name id (Ok a.reply) w.held v.held × (v.claims ≡ w.claims)
cancelled name id w v (replied a) fine h = (a, refl, h.0, h.1, h.2, h.3)
cancelled name id w v (failed t) fine h = absurd (fine t refl)
cancelled name id w v (gave g) fine h = absurd h
cancelled name id w v (came_to e) fine h = absurd h
cancelled name id w v ended fine h = absurd h

finished : (held : Held) (staged : Staged) (digest : List ℕ) (w v : Data) (seen : Seen) → FinishesBy held staged digest w seen v
    → (e : Ending) × (seen ≡ came_to e) × EndsUpload w.claims held staged digest e w.held v.held × (v.claims ≡ w.claims)
finished held staged digest w v (replied a) h = absurd h
finished held staged digest w v (failed t) h = absurd h
finished held staged digest w v (gave g) h = absurd h
finished held staged digest w v (came_to e) h = (e, refl, h.0, h.1)
finished held staged digest w v ended h = absurd h

shelved : (held : Held) (staged : Staged) (faults : ℕ) (w v : Data) (seen : Seen) → Move w (shelves held staged faults) seen v → (seen ≡ ended) × Move w (shelves held staged faults) ended v
shelved held staged faults w v (replied a) h = absurd h
shelved held staged faults w v (failed t) h = absurd h
shelved held staged faults w v (gave g) h = absurd h
shelved held staged faults w v (came_to e) h = absurd h
shelved held staged faults w v ended h = (refl, h)

released : (held : Held) (w v : Data) (seen : Seen) → Move w (releases held) seen v → (seen ≡ ended) × Move w (releases held) ended v
released held w v (replied a) h = absurd h
released held w v (failed t) h = absurd h
released held w v (gave g) h = absurd h
released held w v (came_to e) h = absurd h
released held w v ended h = (refl, h)

closed : (held : Held) (w v : Data) (seen : Seen) → IsUntroubled seen → ClosesBy held w seen v → (seen ≡ ended) × ClosesBy held w ended v
closed held w v (replied a) fine h = absurd h
closed held w v (failed t) fine h = absurd (fine t refl)
closed held w v (gave g) fine h = absurd h
closed held w v (came_to e) fine h = absurd h
closed held w v ended fine h = (refl, h)

-- ---- outcomes of which more is told

abbrev TellsMore : (Type 0 → Facts → Outcome → Type 0) → Type 1
TellsMore Comes = (told more : Type 0) (facts : Facts) (outcome : Outcome) → (more → told) → Comes told facts outcome → Comes more facts outcome

lacks_more : (state : State) (name : List ℕ) (number : ℕ) (told more : Type 0) (outcome : Outcome) → (more → told) → Lacks told state name number outcome → Lacks more state name number outcome
lacks_more state name number told more outcome tells h = (h.0, λ m. h.1 (tells m), h.2)

starts_more : (name id : List ℕ) (mount : Option (List ℕ × List ℕ)) (now : ℕ) → TellsMore (Starts name id mount now)
starts_more name id mount now told more facts outcome tells h =
    record { stands = h.stands; size = h.size; stands_so = λ m. h.stands_so (tells m); size_so = λ m. h.size_so (tells m); is = h.is }

judged_more : (name : List ℕ) (at : Reference) (digest bytes : List ℕ) (judged : Judged) → TellsMore (PushesJudged name at digest bytes judged)
judged_more name at digest bytes (Bad word) told more facts outcome tells h = h
judged_more name at digest bytes (Good doc) told more facts outcome tells h =
    record { missing = h.missing; missing_so = λ m. h.missing_so (tells m); is = h.is }

pushes_more : (name : List ℕ) (at : Option Reference) (pushed : Pushed) → TellsMore (Pushes name at pushed)
pushes_more name None pushed told more facts outcome tells h = h
pushes_more name (Some at) pushed told more facts outcome tells h =
    judged_more name at pushed.digest pushed.bytes pushed.judged told more facts outcome tells h

unlinks_by_more : (state : State) (name digest : List ℕ) (linked : Bool) (told more : Type 0) (outcome : Outcome) → (more → told) → UnlinksBy told state name digest linked outcome
    → UnlinksBy more state name digest linked outcome
unlinks_by_more state name digest true told more outcome tells h = h
unlinks_by_more state name digest false told more outcome tells h = lacks_more state name blob_unknown told more outcome tells h

unlinks_more : (name digest : List ℕ) → TellsMore (Unlinks name digest)
unlinks_more name digest told more facts outcome tells h =
    record { linked = h.linked; linked_so = λ m. h.linked_so (tells m); is = unlinks_by_more facts.state name digest h.linked told more outcome tells h.is }

untags_by_more : (state : State) (name tag : List ℕ) (stands : Bool) (told more : Type 0) (outcome : Outcome) → (more → told) → UntagsBy told state name tag stands outcome
    → UntagsBy more state name tag stands outcome
untags_by_more state name tag true told more outcome tells h = h
untags_by_more state name tag false told more outcome tells h = lacks_more state name manifest_unknown told more outcome tells h

drops_by_more : (state : State) (name digest : List ℕ) (stands : Bool) (told more : Type 0) (outcome : Outcome) → (more → told) → DropsBy told state name digest stands outcome
    → DropsBy more state name digest stands outcome
drops_by_more state name digest true told more outcome tells h =
    record { lister = h.lister; tags = h.tags; lister_so = λ m. h.lister_so (tells m); tags_so = λ m. h.tags_so (tells m); is = h.is }
drops_by_more state name digest false told more outcome tells h = lacks_more state name manifest_unknown told more outcome tells h

drops_more : (name : List ℕ) (at : Option Reference) → TellsMore (Drops name at)
drops_more name None told more facts outcome tells h = lacks_more facts.state name manifest_unknown told more outcome tells h
drops_more name (Some (Tag tag)) told more facts outcome tells h =
    record { stands = h.stands; stands_so = λ m. h.stands_so (tells m); is = untags_by_more facts.state name tag h.stands told more outcome tells h.is }
drops_more name (Some (Digest digest)) told more facts outcome tells h =
    record { stands = h.stands; stands_so = λ m. h.stands_so (tells m); is = drops_by_more facts.state name digest h.stands told more outcome tells h.is }

-- ---- parts that are one

plain_one : (a b : Answer) → a.reply ≡ b.reply → a.content ≡ b.content → a ≡ b
plain_one a b reply content = λ i. record { reply = reply i; content = content i }

abbrev taken_reply : Reply → Taken Staged → Reply
taken_reply other (taken.Out held staged offset) = other
taken_reply other (taken.Refused reply) = reply

module _ (held : Holding) (claims : ClaimList) (tells : IsTrue held.tells) where
  meets_one : (name : List ℕ) (id : Option (List ℕ)) (one two : Result (List ℕ × ℕ) ℕ) → Meets held claims name id one → Meets held claims name id two → one ≡ two
  meets_one name id one two h k = met_is_there held claims name id one tells h ∙ sym (met_is_there held claims name id two tells k)

  from_one : (name : List ℕ) (id : Option (List ℕ)) (start : Option ℕ) (one two : Result (List ℕ × ℕ) Reply) → MeetsFrom held claims name id start one → MeetsFrom held claims name id start two
      → one ≡ two
  from_one name id start one two h k = h.is ∙ ap (met_from name start) (meets_one name id h.met k.met h.meets k.meets) ∙ sym k.is

  lent_one : {at : List (List ℕ)} (one two : Staged) → IsLentOf held at one → IsLentOf held at two → one ≡ two
  lent_one one two h k =
      let bytes = h.bytes tells ∙ sym (k.bytes tells) in
      let path = h.path ∙ sym k.path in
      let told = h.tells ∙ sym k.tells in
      let count = h.counts (h.tells ∙ tells) ∙ ap length bytes ∙ sym (k.counts (k.tells ∙ tells)) in
      λ i. record { path = path i; tells = told i; count = count i; bytes = bytes i }

  key_one : (key other : List ℕ) (ends until : ℕ) (from : Result (List ℕ × ℕ) Reply) → from ≡ Ok (key, ends) → from ≡ Ok (other, until) → key ≡ other
  key_one key other ends until from h k = let same : (key, ends) ≡ (other, until) = cc (h, k) in ap (λ (m : List ℕ × ℕ). m.0) same

  refused_one : (reply other : Reply) (from : Result (List ℕ × ℕ) Reply) → from ≡ Err reply → from ≡ Err other → reply ≡ other
  refused_one reply other from h k = cc (h, k)

  not_given : (key : List ℕ) (ends : ℕ) (reply : Reply) (from : Result (List ℕ × ℕ) Reply) → from ≡ Ok (key, ends) → from ≡ Err reply → ⊥
  not_given key ends reply from h k = absurd (cc (h, k))

  given_one : (name : List ℕ) (id : Option (List ℕ)) (start : Option ℕ) (one two : Taken Staged) → Takes (λ staged. staged) held claims name id start one
      → Takes (λ staged. staged) held claims name id start two → one ≡ two
  given_one name id start (taken.Out token stage offset) (taken.Out other other_stage until) h k =
      let key = key_one h.key k.key h.ends k.ends (Ok (h.key, h.ends)) refl (from_one name id start (Ok (h.key, h.ends)) (Ok (k.key, k.ends)) h.free k.free) in
      let there = subst (λ (x : List ℕ). IsOutOf {S = Staged} (λ s. s) held claims name x (taken.Out other other_stage until)) (sym key) (k.claimed, k.lent, k.counted) in
      let staged = lent_one stage other_stage h.lent there.1 in
      let claim = h.claimed ∙ sym there.0 in
      let offsets = h.counted ∙ ap (λ (s : Staged). s.count) staged ∙ sym there.2 in
      λ i. taken.Out (claim i) (staged i) (offsets i)
  given_one name id start (taken.Out token stage offset) (taken.Refused reply) h k =
      absurd (not_given h.key h.ends reply (Ok (h.key, h.ends)) refl (from_one name id start (Ok (h.key, h.ends)) (Err reply) h.free k))
  given_one name id start (taken.Refused reply) (taken.Out token stage offset) h k =
      absurd (not_given k.key k.ends reply (Ok (k.key, k.ends)) refl (from_one name id start (Ok (k.key, k.ends)) (Err reply) k.free h))
  given_one name id start (taken.Refused reply) (taken.Refused other) h k =
      ap taken.Refused (refused_one reply other (Err reply) refl (from_one name id start (Err reply) (Err other) h k))

lends_one : (given : Taken Staged) (held one two : Holding) → LendsSession {S = Staged} (Ok given) held one → LendsSession {S = Staged} (Ok given) held two → one ≡ two
lends_one (taken.Out token stage offset) held one two h k = h ∙ sym k
lends_one (taken.Refused reply) held one two h k = h ∙ sym k

claims_one : (who : ℕ) (given : Taken Staged) (claims one two : ClaimList) → ClaimsSession {S = Staged} who claims (Ok given) one → ClaimsSession {S = Staged} who claims (Ok given) two → one ≡ two
claims_one who (taken.Out token stage offset) claims one two h k = h.1 ∙ sym k.1
claims_one who (taken.Refused reply) claims one two h k = h ∙ sym k

cancels_one : (id : Option (List ℕ)) (name : List ℕ) (reply : Reply) (held one two : Holding) → CancelsAt id name reply held one → CancelsAt id name reply held two → one ≡ two
cancels_one (Some id) name replies.Cancelled held one two h k = h ∙ sym k
cancels_one (Some id) name reply held one two h k = h ∙ sym k
cancels_one None name reply held one two h k = h ∙ sym k

-- how finishing ends, where no device fails and memory is there
pub data IsEnd (claims : ClaimList) (held : Held) (staged : Staged) (digest : List ℕ) (ending : Ending) (before now : Holding) : Type 0 where
  is_done : (reply : Reply) → ending ≡ endings.done reply → EndsUpload claims held staged digest (endings.done reply) before now → IsEnd claims held staged digest ending before now
  is_refused : (reply : Reply) → ending ≡ endings.refused reply → EndsUpload claims held staged digest (endings.refused reply) before now → IsEnd claims held staged digest ending before now

pub is_end : (claims : ClaimList) (held : Held) (staged : Staged) (digest : List ℕ) (ending : Ending) (before now : Holding) → IsSound (finishes held staged digest) (came_to ending)
    → EndsUpload claims held staged digest ending before now → IsEnd claims held staged digest ending before now
is_end claims held staged digest (endings.done reply) before now s h = is_done reply refl h
is_end claims held staged digest (endings.refused reply) before now s h = is_refused reply refl h
is_end claims held staged digest (endings.failed true troubles.Depot) before now s h = absurd (s.calm tt)
is_end claims held staged digest (endings.failed true troubles.NoMemory) before now s h = absurd s.memory
is_end claims held staged digest (endings.failed true troubles.Keeper) before now s h = absurd (cc h.0)
is_end claims held staged digest (endings.failed true troubles.Full) before now s h = absurd (cc h.0)
is_end claims held staged digest (endings.failed false troubles.Depot) before now s h = absurd (s.calm tt)
is_end claims held staged digest (endings.failed false troubles.NoMemory) before now s h = absurd s.memory
is_end claims held staged digest (endings.failed false troubles.Keeper) before now s h = absurd h
is_end claims held staged digest (endings.failed false troubles.Full) before now s h = absurd h

ends_one : (claims : ClaimList) (held : Held) (staged : Staged) (digest : List ℕ) (one two : Ending) (before now later : Holding)
    → IsEnd claims held staged digest one before now → IsEnd claims held staged digest two before later → (one ≡ two) × (now ≡ later)
ends_one claims held staged digest one two before now later (is_done reply is h) (is_done other same k) =
    (is ∙ ap endings.done (h.1 ∙ sym k.1) ∙ sym same, h.2 ∙ sym k.2)
ends_one claims held staged digest one two before now later (is_done reply is h) (is_refused other same k) = absurd (false≢true (sym k.0 ∙ h.0))
ends_one claims held staged digest one two before now later (is_refused reply is h) (is_done other same k) = absurd (false≢true (sym h.0 ∙ k.0))
ends_one claims held staged digest one two before now later (is_refused reply is h) (is_refused other same k) =
    (is ∙ ap endings.refused (h.1 ∙ sym k.1) ∙ sym same, h.2 ∙ sym k.2)

-- a session is not given or refused where it is free and numbers have ended
not_full : (held : Holding) (claims now : ClaimList) (tells : IsTrue held.tells) (who : ℕ) (name : List ℕ) (id : Option (List ℕ)) (start : Option ℕ) (met : List ℕ × ℕ) (given : Taken Staged)
    → MeetsFrom held claims name id start (Ok met) → is_full claims ≡ true → Takes (λ staged. staged) held claims name id start given → ClaimsSession {S = Staged} who claims (Ok given) now → ⊥
not_full held claims now tells who name id start met (taken.Out token stage offset) free full takes_it claims_it = false≢true (sym claims_it.0 ∙ full)
not_full held claims now tells who name id start met (taken.Refused reply) free full takes_it claims_it =
    not_given held claims tells met.0 met.1 reply (Ok met) refl (from_one held claims tells name id start (Ok met) (Err reply) free takes_it)

-- ---- each act

module _ (held : Holding) (claims : ClaimList) (f g : ℕ) (seen other : Seen) (v z : Data) (tells : IsTrue held.tells) (fine : IsUntroubled seen) (good : IsUntroubled other) where
  abbrev here : Data
  here = data_of held f claims

  abbrev there : Data
  there = data_of held g claims

  stays : Stays here v → Stays there z → Same v z
  stays h k = record { held = h.held ∙ sym k.held; claims = h.claims ∙ sym k.claims }

  answers_one : (ask : Ask) → AnswersBy ask here seen v → AnswersBy ask there other z → AreOne seen other v z
  answers_one ask h k =
      let (a, is, first, same) = answered ask here v seen fine h in
      let (b, also, second, still) = answered ask there z other good k in
      record { seen_so = is ∙ ap replied (answer_alone (facts here) ask a b (first tells) (second tells)) ∙ sym also; left = stays same still }

  changes_one : (Comes By : Type 0 → Facts → Outcome → Type 0) → By ≡ Comes → HasOneOutcome Comes → TellsMore Comes → ChangesBy Comes here seen v → ChangesBy By there other z → AreOne seen other v z
  changes_one Comes By path alone more h k =
      let (a, is, none, (outcome, comes, reply, made), claimed) = changed Comes here v seen fine h in
      let (b, also, nothing, (last, came, answer, did), stayed) = changed Comes there z other good (subst (λ (C : Type 0 → Facts → Outcome → Type 0). ChangesBy C there other z) path k) in
      let same : outcome ≡ last = alone (facts_of held) outcome last (more (IsTrue held.tells) ⊤ (facts_of held) outcome (λ _. tells) comes)
      (more (IsTrue held.tells) ⊤ (facts_of held) last (λ _. tells) came) in
      let replied_so : a.reply ≡ b.reply = reply ∙ ap (λ (o : Outcome). o.reply) same ∙ sym answer in
      record {
        seen_so = is ∙ ap replied (plain_one a b replied_so (none ∙ sym nothing)) ∙ sym also;
        left = record {
          held = made ∙ ap (λ (o : Outcome). with_changes (files_of_all o.changes) held) same ∙ sym did;
          claims = claimed ∙ sym stayed;
        };
      }

  locates_one : (name : List ℕ) (id : Option (List ℕ)) → LocatesBy name id here seen v → LocatesBy name id there other z → AreOne seen other v z
  locates_one name id h k =
      let (a, is, none, reply, same) = located name id here v seen fine h in
      let (b, also, nothing, answer, still) = located name id there z other good k in
      let met = meets_one held claims tells name id reply.met answer.met reply.meets answer.meets in
      record {
        seen_so = is ∙ ap replied (plain_one a b (reply.is ∙ ap (state_reply name) met ∙ sym answer.is) (none ∙ sym nothing)) ∙ sym also;
        left = stays same still;
      }

  cancelling_one : (name : List ℕ) (id : Option (List ℕ)) → CancelsBy name id here seen v → CancelsBy name id there other z → AreOne seen other v z
  cancelling_one name id h k =
      let (a, is, none, reply, gone, claimed) = cancelled name id here v seen fine h in
      let (b, also, nothing, answer, went, stayed) = cancelled name id there z other good k in
      let met = meets_one held claims tells name id reply.met answer.met reply.meets answer.meets in
      let same = reply.is ∙ ap cancel_reply met ∙ sym answer.is in
      record {
        seen_so = is ∙ ap replied (plain_one a b same (none ∙ sym nothing)) ∙ sym also;
        left = record {
          held = cancels_one id name b.reply held v.held z.held (subst (λ (x : Reply). CancelsAt id name x held v.held) same gone) went;
          claims = claimed ∙ sym stayed;
        };
      }

  finishes_one : (token : Held) (staged : Staged) (digest : List ℕ) → IsSound (finishes token staged digest) seen → IsSound (finishes token staged digest) other
      → FinishesBy token staged digest here seen v → FinishesBy token staged digest there other z → AreOne seen other v z
  finishes_one token staged digest s t h k =
      let (a, is, ends, claimed) = finished token staged digest here v seen h in
      let (b, also, ended_so, stayed) = finished token staged digest there z other k in
      let same = ends_one claims token staged digest a b held v.held z.held
      (is_end claims token staged digest a held v.held (subst (λ (x : Seen). IsSound (finishes token staged digest) x) is s) ends)
      (is_end claims token staged digest b held z.held (subst (λ (x : Seen). IsSound (finishes token staged digest) x) also t) ended_so) in
      record { seen_so = is ∙ ap came_to same.0 ∙ sym also; left = record { held = same.1; claims = claimed ∙ sym stayed } }

takes_one : (held : Holding) (claims : ClaimList) (f g : ℕ) (seen other : Seen) (v z : Data) (who : ℕ) (name : List ℕ) (id : Option (List ℕ)) (start : Option ℕ) → IsTrue held.tells
    → Took who name id start (data_of held f claims) seen v → Took who name id start (data_of held g claims) other z → AreOne seen other v z
takes_one held claims f g seen other v z who name id start tells (gives_it a is takes_it lends claims_it) (gives_it b also took_it lent claimed) =
    let same = given_one held claims tells name id start a b takes_it took_it in
    record {
      seen_so = is ∙ ap gave same ∙ sym also;
      left = record {
        held = lends_one b held v.held z.held (subst (λ (x : Taken Staged). LendsSession {S = Staged} (Ok x) held v.held) same lends) lent;
        claims = claims_one who b claims v.claims z.claims (subst (λ (x : Taken Staged). ClaimsSession {S = Staged} who claims (Ok x) v.claims) same claims_it) claimed;
      };
    }
takes_one held claims f g seen other v z who name id start tells (gives_it a is takes_it lends claims_it) (numbers_end met also free full stays) =
    absurd (not_full held claims v.claims tells who name id start met a free full takes_it claims_it)
takes_one held claims f g seen other v z who name id start tells (numbers_end met is free full stays) (gives_it a also takes_it lends claims_it) =
    absurd (not_full held claims z.claims tells who name id start met a free full takes_it claims_it)
takes_one held claims f g seen other v z who name id start tells (numbers_end met is free full stays) (numbers_end last also open_so at_end still) =
    record { seen_so = is ∙ sym also; left = record { held = stays.held ∙ sym still.held; claims = stays.claims ∙ sym still.claims } }

one_move : (act : Act) (held : Holding) (claims : ClaimList) (f g : ℕ) (seen other : Seen) (v z : Data) → IsTrue held.tells → IsSound act seen → IsSound act other
    → Move (data_of held f claims) act seen v → Move (data_of held g claims) act other z → AreOne seen other v z
one_move act held claims f g seen other v z tells s t h k =
    by act (λ none. untroubled act seen (data_of held f claims) v none s h) (λ none. untroubled act other (data_of held g claims) z none t k) s t h k
  where
    by : (a : Act) → ((IsTaking a → ⊥) → IsUntroubled seen) → ((IsTaking a → ⊥) → IsUntroubled other) → IsSound a seen → IsSound a other → Move (data_of held f claims) a seen v → Move (data_of held g claims) a other z → AreOne seen other v z
    by (answers ask) fine good s t h k = answers_one held claims f g seen other v z tells (fine (λ x. x)) (good (λ x. x)) ask h k
    by (starts name mount id now) fine good s t h k =
        changes_one held claims f g seen other v z tells (fine (λ x. x)) (good (λ x. x)) (Starts name id mount now) (Starts name id mount now) refl (starts_alone name id mount now) (starts_more name id mount now) h k
    by (pushes name at pushed) fine good s t h k =
        changes_one held claims f g seen other v z tells (fine (λ x. x)) (good (λ x. x)) (Pushes name at pushed) (Pushes name at pushed) refl (pushes_alone name at pushed) (pushes_more name at pushed) h k
    by (drops name at) fine good s t h k =
        changes_one held claims f g seen other v z tells (fine (λ x. x)) (good (λ x. x)) (Drops name at) (Drops name at) refl (drops_alone name at) (drops_more name at) h k
    by (unlinks name digest) fine good s t h k =
        changes_one held claims f g seen other v z tells (fine (λ x. x)) (good (λ x. x)) (Unlinks name digest) (Unlinks name digest) refl (unlinks_alone name digest) (unlinks_more name digest) h k
    by (locates name id) fine good s t h k = locates_one held claims f g seen other v z tells (fine (λ x. x)) (good (λ x. x)) name id h k
    by (takes who name id start) fine good s t h k =
        takes_one held claims f g seen other v z who name id start tells (took who name id start (data_of held f claims) v seen s h) (took who name id start (data_of held g claims) z other t k)
    by (shelves token staged faults) fine good s t h k =
        let (is, left) = shelved token staged faults (data_of held f claims) v seen h in
        let (also, same) = shelved token staged faults (data_of held g claims) z other k in
        record { seen_so = is ∙ sym also; left = record { held = left.0 ∙ sym same.0; claims = left.1 ∙ sym same.1 } }
    by (cancels name id) fine good s t h k = cancelling_one held claims f g seen other v z tells (fine (λ x. x)) (good (λ x. x)) name id h k
    by (finishes token staged digest) fine good s t h k = finishes_one held claims f g seen other v z tells (fine (λ x. x)) (good (λ x. x)) token staged digest s t h k
    by (releases token) fine good s t h k =
        let (is, left) = released token (data_of held f claims) v seen h in
        let (also, same) = released token (data_of held g claims) z other k in
        record { seen_so = is ∙ sym also; left = record { held = left.0 ∙ sym same.0; claims = left.1 ∙ sym same.1 } }
    by (closes token) fine good s t h k =
        let (is, left) = closed token (data_of held f claims) v seen (fine (λ x. x)) h in
        let (also, same) = closed token (data_of held g claims) z other (good (λ x. x)) k in
        record { seen_so = is ∙ sym also; left = record { held = left.0 ∙ sym same.0; claims = left.1 ∙ sym same.1 } }

-- ---- one hold

-- the act on a world that differs at most in the count of faults
moved : (act : Act) (w u z : Data) (seen : Seen) → Same w u → Move u act seen z → Move (data_of w.held u.faults w.claims) act seen z
moved act w u z seen same h =
    subst (λ (c : ClaimList). Move (data_of w.held u.faults c) act seen z) (sym same.claims)
    (subst (λ (d : Holding). Move (data_of d u.faults u.claims) act seen z) (sym same.held) h)

pub one_hold : (act : Act) (w u v z : Data) (seen other : Seen) → Same w u → IsTrue w.held.tells → IsSound act seen → IsSound act other → Move w act seen v → Move u act other z
    → AreOne seen other v z
one_hold act w u v z seen other same tells s t h k =
    one_move act w.held w.claims w.faults u.faults seen other v z tells s t h (moved act w u z other same k)

-- what is pushed is one where its parts are
pushes_same : (name : List ℕ) (at : Option Reference) (one two : Pushed) → one.digest ≡ two.digest → one.bytes ≡ two.bytes → one.judged ≡ two.judged → Pushes name at one ≡ Pushes name at two
pushes_same name None one two digest bytes judged = refl
pushes_same name (Some at) one two digest bytes judged = λ i. λ told facts outcome. PushesJudged name at (digest i) (bytes i) (judged i) told facts outcome

pub one_push : (name : List ℕ) (at : Option Reference) (pushed also : Pushed) (w u v z : Data) (seen other : Seen) → also.digest ≡ pushed.digest → also.bytes ≡ pushed.bytes → also.judged ≡ pushed.judged
    → Same w u → IsTrue w.held.tells → IsSound (pushes name at pushed) seen → IsSound (pushes name at also) other → Move w (pushes name at pushed) seen v → Move u (pushes name at also) other z
    → AreOne seen other v z
one_push name at pushed also w u v z seen other digest bytes judged same tells s t h k =
    let move = moved (pushes name at also) w u z other same k in
    changes_one w.held w.claims w.faults u.faults seen other v z tells (untroubled (pushes name at pushed) seen w v (λ x. x) s h)
    (untroubled (pushes name at also) other (data_of w.held u.faults w.claims) z (λ x. x) t move)
    (Pushes name at pushed) (Pushes name at also) (pushes_same name at also pushed digest bytes judged) (pushes_alone name at pushed) (pushes_more name at pushed) h move
