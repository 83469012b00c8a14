-- What was written of a request whose head was read.
use Rattle.std.proofs.Common.{◌≡◌, ◌≢◌, ◌≤◌, ℕ, Bool, true, false, ◌&&◌, if◌then◌else◌, List, [], ◌∷◌, ◌++◌, Option, Some, None, Ok, Err, refl, sym, ap, subst, ◌∙◌, append_assoc, inl, inr, ◌⊎◌}
use Rattle.std.proofs.lemmas.Bool.{false≢true}
use Rattle.std.specs.Io.KnownBytes.{Appends, IsAtEnd}
use Rattle.reg_names.specs.Cause.{HasCause}
use Rattle.std.proofs.KnownBytes.{Appends-nil, Appends-trans}
use Rattle.http_wire.specs.declared.body.BodyState.{BodyState}
use Rattle.http_wire.specs.Bodies.{ends_before}
use Rattle.http_wire.specs.Filling.{within}
use Rattle.http_wire.specs.Flow.{OnStream}
use Rattle.http_wire.specs.Limits.{feed_limit}
use Rattle.http_wire.specs.Messages.{ReadsBody}
use Rattle.http_wire.proofs.StreamLaws.{on_same}
use Rattle.reg_entries.specs.Numbers as numbers
use Rattle.reg_entries.specs.declared.ask.Ask.{Ask}
use Rattle.reg_entries.specs.declared.reply.Reply.{Reply}
use Rattle.reg_model.specs.Answers.{Answer, plain, refusal}
use Rattle.reg_replies.specs.Replies.{wire}
use Rattle.reg_replies.specs.Writing.{TookFront}
use Rattle.reg_routes.specs.Routing.{Answer as Asked}
use Rattle.reg_session.specs.Bodies.{Drops}
use Rattle.reg_session.specs.declared.bodies.Dropped.{Dropped}
use Rattle.reg_session.specs.declared.bodies.Dropped.TheVariants as dropped
use Rattle.reg_session.specs.declared.ended.Ended.{Ended}
use Rattle.reg_session.specs.declared.ended.Ended.TheVariants as ends
use Rattle.reg_session.specs.declared.ended.Step.{Step}
use Rattle.reg_session.specs.declared.ended.Step.TheVariants as steps
use Rattle.reg_session.specs.InnerReplies.{line_for, IfStepBlob, IsAfterReply, RefusesWith, reply_head, ConcludesSo}
use Rattle.reg_session.specs.InnerSteps.{Line, line, TookBehind, EndsOnBehind, Behind, BreaksWith, broken, IsKnown, StepCauses}
use Rattle.reg_session.specs.Requests.{Parts, asked_in, awaits, body_state, head_only, limit_by, limit_of, limit_of_ask}
use Rattle.reg_session.specs.Sending.{BreaksOff}
use Rattle.reg_session.specs.Chains.{Hold}
use Rattle.reg_session.specs.InnerBodies.{DropsFront}
use Rattle.reg_session.specs.Uploads.{LeavesBy}
use Rattle.reg_session.specs.Turns.{Replies, RepliesTo, continue_line, goes_on, goes_on_for, NeedsNoSession, LooksFirst, MaySendBody, interim, Turn, IsTurn, closes, content, opening, talk}
use Rattle.reg_session.specs.Works.{Begun, began, refused, denied, served, text_of, before_reply, is_head, room_by, room_in, IsBadBehind, IsBegun, IsDenied, Leaves, MayHold, EndsWith, LeavesNothing, Wrote, number_of}
use Rattle.reg_session.proofs.ConcludeLaws.{front_behind}
use Rattle.reg_session.proofs.ExchangeLaws.{just_begun, later_than, leaves_none, only_begun}

abbrev pub asked_as : Ask → Asked
asked_as ask = Ok ask

-- ---- the interim reply

-- none is due to a request that does not wait, or whose refusal is known
none_by : (a b : Bool) → a ≡ false → (if a && b then continue_line else []) ≡ []
none_by a b is = ap (λ x. if x && b then continue_line else []) is

pub none_awaited : (p : Parts) (holds : List Hold) → awaits p ≡ false → interim p holds ≡ []
none_awaited p holds is = none_by (awaits p) (goes_on (asked_in p) holds) is

silent_by : (a b : Bool) → b ≡ false → (if a && b then continue_line else []) ≡ []
silent_by true b is = ap (λ x. if x then continue_line else []) is
silent_by false b is = refl

pub none_said : (p : Parts) (holds : List Hold) → goes_on (asked_in p) holds ≡ false → interim p holds ≡ []
none_said p holds is = silent_by (awaits p) (goes_on (asked_in p) holds) is

told_by : (a b : Bool) → b ≡ true → (if a then continue_line else []) ≡ (if a && b then continue_line else [])
told_by true b is = ap (λ x. if x then continue_line else []) (sym is)
told_by false b is = refl

-- that of a request that is told to go on
pub line_is_interim : (p : Parts) (holds : List Hold) → goes_on (asked_in p) holds ≡ true → line_for p ≡ interim p holds
line_is_interim p holds is = told_by (awaits p) (goes_on (asked_in p) holds) is

-- ---- a body that is refused

pub refused_text : (b : Begun) (p : Parts) (n : ℕ) (reply : Reply) (only : Bool) → b.parts ≡ p → reply ≡ refusal n → only ≡ head_only p
    → text_of (refused b n) ≡ before_reply (refused b n) ++ wire reply only true
refused_text b p n reply only parts is head =
    let same : only ≡ head_only b.parts = head ∙ sym (ap head_only parts) in
    λ i. interim b.parts b.holds ++ wire (sym is i) (sym same i) true

pub refused_head : (b : Begun) (p : Parts) (n : ℕ) (only : Bool) → b.parts ≡ p → only ≡ head_only p → is_head (refused b n) ≡ only
refused_head b p n only parts head = ap head_only parts ∙ sym head

-- one for which memory was wanting was begun
pub memory_broken : (b : Begun) (d : Dropped) → (d ≡ dropped.NoMemory) ⊎ (d ≡ dropped.Whole) → broken b d ≡ began b
memory_broken b d (inl is) = ap (broken b) is
memory_broken b d (inr is) = ap (broken b) is

-- ---- texts that are there

some_behind : (x y : List ℕ) → y ≢ [] → x ++ y ≢ []
some_behind [] y some e = some e
some_behind (b ∷ x) y some e = cc e

first_some : (b : ℕ) (x : List ℕ) → b ∷ x ≢ []
first_some b x e = cc e

reply_some : (reply : Reply) (only close : Bool) → wire reply only close ≢ []
reply_some reply only close = first_some 72 _

-- ---- a request that was denied

module _ {B : Type 0} (failed : Type 0) (p : Parts) (holds : List Hold) (reply : Reply) (stream left before now : Option (List ℕ)) (is : IsDenied p holds reply) where
  took_denied : (ended : Ended B) (s : Option (List ℕ)) → ((bytes : List ℕ) → EndsOnBehind ended (denied p holds reply) bytes)
      → OnStream s s (λ bytes rest. TookBehind p (denied p holds reply) bytes rest × EndsOnBehind ended (denied p holds reply) bytes)
  took_denied ended None on = tt
  took_denied ended (Some bytes) on = ((refl, refl), on bytes)

  pub denied_behind : (ended : Ended B) → RefusesWith (number_of reply) ended → Wrote failed ended before now (denied p holds reply)
      → Behind failed p (line stream left before) (line stream left now) holds (steps.Ended ended)
  denied_behind ends.Done ends_so wrote = absurd ends_so
  denied_behind (ends.Refused n) ends_so wrote =
      (denied p holds reply, refl, record { done = is; ends = ends_so; read = took_denied (ends.Refused n) stream (λ _. tt); at_end = tt; wrote = wrote })
  denied_behind ends.Cut ends_so wrote = absurd ends_so
  denied_behind ends.SourceFault ends_so wrote = absurd ends_so
  denied_behind ends.SinkFault ends_so wrote =
      (denied p holds reply, refl, record { done = is; ends = reply_some reply (head_only p) true; read = took_denied ends.SinkFault stream (λ _. tt); at_end = tt; wrote = wrote })
  denied_behind (ends.BlobFault blob) ends_so wrote = absurd ends_so
  denied_behind ends.Long ends_so wrote = absurd ends_so
  denied_behind ends.NoMemory ends_so wrote =
      (denied p holds reply, refl, record { done = is; ends = tt; read = took_denied ends.NoMemory stream (λ _. tt); at_end = tt; wrote = wrote })

-- ---- a request that was answered

-- the body of a whole request, where the source tells it
pub whole_body : (limit : Option ℕ) (state : BodyState) (a b : Option (List ℕ)) → OnStream a b (Drops dropped.Whole limit state)
    → (body : List ℕ) × OnStream a b (λ old new. ReadsBody limit state old body (within (ends_before new)))
whole_body limit state None b h = ([], tt)
whole_body limit state (Some x) None h = absurd h
whole_body limit state (Some x) (Some y) h = h

-- ---- three texts, one behind the other

pub three_all : (a mid b : Option (List ℕ)) (x y z : List ℕ) → Appends a mid x → Appends mid b (y ++ z) → Appends a b ((x ++ y) ++ z)
three_all a mid b x y z said took = subst (λ (t : List ℕ). Appends a b t) (sym (append_assoc x y z)) (Appends-trans a mid b x (y ++ z) said took)

pub three_front : (a mid b : Option (List ℕ)) (x y z : List ℕ) → Appends a mid x → TookFront mid b (y ++ z) → TookFront a b ((x ++ y) ++ z)
three_front a mid b x y z said took = subst (λ (t : List ℕ). TookFront a b t) (sym (append_assoc x y z)) (front_behind a mid b x (y ++ z) said took)

pub three_off : (a mid b : Option (List ℕ)) (x y z : List ℕ) → Appends a mid x → BreaksOff mid b y z → BreaksOff a b (x ++ y) z
three_off a mid b x y z said off = record {
  front = off.front;
  rest = off.rest;
  split = off.split;
  more = off.more;
  took = three_all a mid b x y off.front said off.took;
}

-- ---- a request that was answered

pub opening_is : (t : Turn) → opening t ≡ interim t.request.parts t.holds ++ reply_head t.request.parts t.answer
opening_is t = refl

pub talk_is : (t : Turn) → talk t ≡ (interim t.request.parts t.holds ++ reply_head t.request.parts t.answer) ++ content t.request.parts t.answer
talk_is t = refl

module _ (failed : Type 0) (t : Turn) (a b : Line) (mid : Option (List ℕ)) (is : IsTurn t)
    (read : OnStream a.bytes b.bytes (λ old new. ReadsBody (limit_of t.request.parts) (body_state t.request.parts) old t.request.body (within (ends_before new))))
    (said : Appends a.written mid (interim t.request.parts t.holds)) where
  ends_turn : {B : Type 0} (ended : Ended B) → EndsWith ended (served t) → LeavesNothing ended (served t) b.left → ((old : List ℕ) → EndsOnBehind ended (served t) old)
      → Wrote failed ended a.written b.written (served t) → Behind failed t.request.parts a b t.holds (steps.Ended ended)
  ends_turn ended so over on wrote =
      (served t, refl, record { done = is; ends = so; read = on_same a.bytes b.bytes read (λ x y r. ((refl, r), on x)); at_end = over; wrote = wrote })

  goes_turn : (B : Type 0) → closes t ≡ false → Appends a.written b.written (talk t) → Behind {B = B} failed t.request.parts a b t.holds steps.Next
  goes_turn B stays wrote = (t, refl, record { is = (is, stays); read = on_same a.bytes b.bytes read (λ x y r. (refl, r)); wrote = wrote })

  all_said : Appends mid b.written (reply_head t.request.parts t.answer ++ content t.request.parts t.answer) → Appends a.written b.written (talk t)
  all_said took = three_all a.written mid b.written (interim t.request.parts t.holds) (reply_head t.request.parts t.answer) (content t.request.parts t.answer) said took

  front_said : TookFront mid b.written (reply_head t.request.parts t.answer ++ content t.request.parts t.answer) → TookFront a.written b.written (talk t)
  front_said took = three_front a.written mid b.written (interim t.request.parts t.holds) (reply_head t.request.parts t.answer) (content t.request.parts t.answer) said took

  off_said : BreaksOff mid b.written (reply_head t.request.parts t.answer) (content t.request.parts t.answer) → BreaksOff a.written b.written (opening t) (content t.request.parts t.answer)
  off_said off = three_off a.written mid b.written (interim t.request.parts t.holds) (reply_head t.request.parts t.answer) (content t.request.parts t.answer) said off

  pub answered_behind : {B : Type 0} (step : Step B) → ConcludesSo failed t.request.parts t.answer mid b.written step → Behind failed t.request.parts a b t.holds step
  answered_behind {B} steps.Next h = goes_turn B h.0 (all_said h.1)
  answered_behind (steps.Ended ends.Done) h = ends_turn ends.Done (h.0, h.1) tt (λ _. tt) (all_said h.2)
  answered_behind (steps.Ended (ends.Refused n)) h = absurd h
  answered_behind (steps.Ended ends.Cut) h = absurd h
  answered_behind (steps.Ended ends.SourceFault) h = absurd h
  answered_behind (steps.Ended ends.SinkFault) h = ends_turn ends.SinkFault h.0 tt (λ _. tt) (front_said h.1)
  answered_behind (steps.Ended (ends.BlobFault blob)) h = ends_turn (ends.BlobFault blob) (h.0, h.1) tt (λ _. tt) (off_said h.2)
  answered_behind (steps.Ended ends.Long) h = absurd h
  answered_behind (steps.Ended ends.NoMemory) h = ends_turn ends.NoMemory tt tt (λ _. tt) (record { said = interim t.request.parts t.holds; before = refl; mid = mid; took = said; reply = h })

-- ---- a request whose body did not come whole

front_by : (d : Dropped) (limit : Option ℕ) (state : BodyState) (x y : List ℕ) → Drops d limit state x y → (begin : List ℕ) × DropsFront d limit state begin x y
front_by dropped.Whole limit state x y h = h
front_by dropped.TooLong limit state x y h = h
front_by dropped.Cut limit state x y (begin, front, body) = (begin, (front, body))
front_by dropped.Malformed limit state x y h = h
front_by dropped.SourceFault limit state x y h = h
front_by dropped.Long limit state x y h = h
front_by dropped.NoMemory limit state x y h = h

pub front_body : (d : Dropped) (limit : Option ℕ) (state : BodyState) (a b : Option (List ℕ)) → OnStream a b (Drops d limit state)
    → (begin : List ℕ) × OnStream a b (DropsFront d limit state begin)
front_body d limit state None b h = ([], tt)
front_body d limit state (Some x) None h = absurd h
front_body d limit state (Some x) (Some y) h = front_by d limit state x y h

refused_by : (x : List ℕ) (reply : Reply) (only : Bool) (text : List ℕ) → text ≡ x ++ wire reply only true → text ≢ []
refused_by x reply only text is e = some_behind x (wire reply only true) (reply_some reply only true) (sym is ∙ e)

pub refused_some : (b : Begun) (n : ℕ) → text_of (refused b n) ≢ []
refused_some b n = refused_by (interim b.parts b.holds) (refusal n) (head_only b.parts) (text_of (refused b n)) refl

-- how the body of a request that was begun broke off
abbrev pub BreaksHere : Begun → Dropped → List ℕ → List ℕ → Type 0
BreaksHere b dropped.TooLong old new = IsBadBehind b numbers.body_too_large old
BreaksHere b d old new = DropsFront d (room_in b) (body_state b.parts) b.begin old new

pub breaks_roomed : (b : Begun) (d : Dropped) (old new : List ℕ) → DropsFront d (room_in b) (body_state b.parts) b.begin old new → BreaksHere b d old new
breaks_roomed b dropped.TooLong old new h = inl (refl, h)
breaks_roomed b dropped.Whole old new h = h
breaks_roomed b dropped.Cut old new h = h
breaks_roomed b dropped.Malformed old new h = h
breaks_roomed b dropped.SourceFault old new h = h
breaks_roomed b dropped.Long old new h = h
breaks_roomed b dropped.NoMemory old new h = h

-- what may come of it is the limit of the request, where no session was given
pub breaks_plainly : (b : Begun) (d : Dropped) (old new : List ℕ) → room_by (limit_of b.parts) b.holds ≡ limit_of b.parts
    → DropsFront d (limit_of b.parts) (body_state b.parts) b.begin old new → BreaksHere b d old new
breaks_plainly b d old new room h = breaks_roomed b d old new (subst (λ (l : Option ℕ). DropsFront d l (body_state b.parts) b.begin old new) (sym room) h)

module _ (failed : Type 0) (b : Begun) (from to : Line) (is : IsBegun b) (may : MaySendBody b.parts b.holds) where
  ends_refused : {B : Type 0} (n : ℕ) (ended : Ended B) → EndsWith ended (refused b n) → LeavesNothing ended (refused b n) to.left → ((old : List ℕ) → EndsOnBehind ended (refused b n) old)
      → Wrote failed ended from.written to.written (refused b n) → OnStream from.bytes to.bytes (TookBehind b.parts (refused b n)) → Behind failed b.parts from to b.holds (steps.Ended ended)
  ends_refused n ended so over on wrote read =
      (refused b n, refl, record { done = record { begun = is; told = inl may }; ends = so; read = on_same from.bytes to.bytes read (λ x y r. (r, on x)); at_end = over; wrote = wrote })

  refused_behind : {B : Type 0} (n : ℕ) (ended : Ended B) → RefusesWith n ended → Wrote failed ended from.written to.written (refused b n)
      → OnStream from.bytes to.bytes (TookBehind b.parts (refused b n)) → Behind failed b.parts from to b.holds (steps.Ended ended)
  refused_behind n ends.Done so wrote read = absurd so
  refused_behind n (ends.Refused m) so wrote read = ends_refused n (ends.Refused m) so tt (λ _. tt) wrote read
  refused_behind n ends.Cut so wrote read = absurd so
  refused_behind n ends.SourceFault so wrote read = absurd so
  refused_behind n ends.SinkFault so wrote read = ends_refused n ends.SinkFault (refused_some b n) tt (λ _. tt) wrote read
  refused_behind n (ends.BlobFault blob) so wrote read = absurd so
  refused_behind n ends.Long so wrote read = absurd so
  refused_behind n ends.NoMemory so wrote read = ends_refused n ends.NoMemory tt tt (λ _. tt) wrote read

  -- the session ended with the request begun
  begun_behind : {B : Type 0} (ended told : Ended B) → told ≡ ended → EndsWith ended (began b) → LeavesNothing ended (began b) to.left → Wrote failed told from.written to.written (began b)
      → OnStream from.bytes to.bytes (λ old new. TookBehind b.parts (began b) old new × EndsOnBehind ended (began b) old) → Behind failed b.parts from to b.holds (steps.Ended told)
  begun_behind {B} ended told same so over wrote read =
      subst (λ (e : Ended B). Behind failed b.parts from to b.holds (steps.Ended e)) (sym same)
      (began b, refl, record { done = is; ends = so; read = read; at_end = over; wrote = subst (λ (e : Ended B). Wrote failed e from.written to.written (began b)) same wrote })

  pub broken_behind : {B : Type 0} (d : Dropped) (ended : Ended B) → BreaksWith d ended → Wrote failed ended from.written to.written (broken b d) → (d ≡ dropped.Cut → IsAtEnd to.left)
      → OnStream from.bytes to.bytes (BreaksHere b d) → Behind failed b.parts from to b.holds (steps.Ended ended)
  broken_behind dropped.Whole ended so wrote over read = absurd so
  broken_behind dropped.TooLong ended so wrote over read =
      refused_behind numbers.body_too_large ended so wrote (on_same from.bytes to.bytes read (λ x y r. (refl, r)))
  broken_behind dropped.Cut ended so wrote over read =
      begun_behind ends.Cut ended so may (over refl) wrote (on_same from.bytes to.bytes read (λ x y r. ((refl, r.0), r.1)))
  broken_behind dropped.Malformed ended so wrote over read =
      refused_behind numbers.not_a_request ended so wrote (on_same from.bytes to.bytes read (λ x y r. (refl, inr (inr (refl, r)))))
  broken_behind dropped.SourceFault ended so wrote over read =
      begun_behind ends.SourceFault ended so may tt wrote (on_same from.bytes to.bytes read (λ x y r. ((refl, r), tt)))
  broken_behind dropped.Long ended so wrote over read =
      begun_behind ends.Long ended so may tt wrote (on_same from.bytes to.bytes read (λ x y r. ((refl, r), tt)))
  broken_behind dropped.NoMemory ended so wrote over read =
      begun_behind ends.NoMemory ended so tt tt wrote (on_same from.bytes to.bytes read (λ x y r. ((refl, r), tt)))

-- ---- a request, by what came of its body

-- nothing is said to one that does not wait
pub said_nothing : (p : Parts) (holds : List Hold) (written : Option (List ℕ)) → awaits p ≡ false → Appends written written (interim p holds)
said_nothing p holds written quiet = subst (λ (t : List ℕ). Appends written written t) (sym (none_awaited p holds quiet)) (Appends-nil written)

module _ {B : Type 0} (failed : Type 0) (p : Parts) (holds : List Hold) (a b : Line) (mid : Option (List ℕ))
    (said : Appends a.written mid (interim p holds)) (may : MaySendBody p holds) where
  -- its body was this, and it is answered
  pub whole_behind : (body : List ℕ) (reply : Reply) (bytes : List ℕ) (step : Step B) → Replies (asked_in p) body holds (record { reply = reply; content = bytes })
      → OnStream a.bytes b.bytes (λ old new. ReadsBody (limit_of p) (body_state p) old body (within (ends_before new)))
      → ConcludesSo failed p (record { reply = reply; content = bytes }) mid b.written step → Behind failed p a b holds step
  whole_behind body reply bytes step replies read so =
      answered_behind failed (record { request = record { parts = p; body = body }; holds = holds; answer = record { reply = reply; content = bytes } }) a b mid
      (record { replies_so = replies; told = may }) read said step so

  -- the same of a body that was dropped
  pub dropped_behind : (limit : Option ℕ) (reply : Reply) (bytes : List ℕ) (step : Step B) → limit ≡ limit_of p
      → ((body : List ℕ) → Replies (asked_in p) body holds (record { reply = reply; content = bytes }))
      → OnStream a.bytes b.bytes (Drops dropped.Whole limit (body_state p))
      → ConcludesSo failed p (record { reply = reply; content = bytes }) mid b.written step → Behind failed p a b holds step
  dropped_behind limit reply bytes step limited replies read so =
      let body = whole_body (limit_of p) (body_state p) a.bytes b.bytes (subst (λ (l : Option ℕ). OnStream a.bytes b.bytes (Drops dropped.Whole l (body_state p))) limited read) in
      whole_behind body.0 reply bytes step (replies body.0) body.1 so

  -- it broke off, with this front
  pub front_behind_it : (begin : List ℕ) (d : Dropped) (ended : Ended B) → IsBegun (record { parts = p; begin = begin; holds = holds })
      → OnStream a.bytes b.bytes (BreaksHere (record { parts = p; begin = begin; holds = holds }) d) → BreaksWith d ended
      → ((begun : Begun) (start : Option (List ℕ)) → begun.parts ≡ p → Appends start mid (interim begun.parts begun.holds) → Wrote failed ended start b.written (broken begun d))
      → (d ≡ dropped.Cut → IsAtEnd b.left) → Behind failed p a b holds (steps.Ended ended)
  front_behind_it begin d ended is read so wrote over =
      let begun : Begun = record { parts = p; begin = begin; holds = holds } in
      broken_behind failed begun a b is may d ended so (wrote begun a.written refl said) over read

  pub cut_behind : (limit : Option ℕ) (d : Dropped) (ended : Ended B) → limit ≡ limit_of p → room_by (limit_of p) holds ≡ limit_of p → MayHold p holds
      → ((begin : List ℕ) → Leaves (asked_in p) begin holds) → OnStream a.bytes b.bytes (Drops d limit (body_state p)) → BreaksWith d ended
      → ((begun : Begun) (start : Option (List ℕ)) → begun.parts ≡ p → Appends start mid (interim begun.parts begun.holds) → Wrote failed ended start b.written (broken begun d))
      → (d ≡ dropped.Cut → IsAtEnd b.left) → Behind failed p a b holds (steps.Ended ended)
  cut_behind limit d ended limited room held leaves read so wrote over =
      let front = front_body d (limit_of p) (body_state p) a.bytes b.bytes (subst (λ (l : Option ℕ). OnStream a.bytes b.bytes (Drops d l (body_state p))) limited read) in
      let begun : Begun = record { parts = p; begin = front.0; holds = holds } in
      front_behind_it front.0 d ended (record { may = held; leaves = leaves front.0 })
      (on_same a.bytes b.bytes front.1 (λ x y r. breaks_plainly begun d x y room r)) so wrote over

-- ---- causes

-- how a step ended
abbrev ended_in : {B : Type 0} → Ended B → Step B → Ended B
ended_in other steps.Next = other
ended_in other (steps.Ended ended) = ended

ended_of : {B : Type 0} {one two : Ended B} → steps.Ended one ≡ steps.Ended two → one ≡ two
ended_of {B} {one} {two} is = ap (ended_in one) is

source_failed : {B : Type 0} (d : Dropped) (ended : Ended B) → BreaksWith d ended → steps.Ended ended ≡ steps.Ended ends.SourceFault → d ≡ dropped.SourceFault
source_failed dropped.Whole ended so is = absurd so
source_failed {B} dropped.TooLong ended so is = absurd (subst (RefusesWith {B = B} numbers.body_too_large) (ended_of is) so)
source_failed dropped.Cut ended so is = cc (sym so ∙ ended_of is)
source_failed {B} dropped.Malformed ended so is = absurd (subst (RefusesWith {B = B} numbers.not_a_request) (ended_of is) so)
source_failed dropped.SourceFault ended so is = refl
source_failed dropped.Long ended so is = cc (sym so ∙ ended_of is)
source_failed dropped.NoMemory ended so is = cc (sym so ∙ ended_of is)

was_long : {B : Type 0} (d : Dropped) (ended : Ended B) → BreaksWith d ended → steps.Ended ended ≡ steps.Ended ends.Long → d ≡ dropped.Long
was_long dropped.Whole ended so is = absurd so
was_long {B} dropped.TooLong ended so is = absurd (subst (RefusesWith {B = B} numbers.body_too_large) (ended_of is) so)
was_long dropped.Cut ended so is = cc (sym so ∙ ended_of is)
was_long {B} dropped.Malformed ended so is = absurd (subst (RefusesWith {B = B} numbers.not_a_request) (ended_of is) so)
was_long dropped.SourceFault ended so is = cc (sym so ∙ ended_of is)
was_long dropped.Long ended so is = refl
was_long dropped.NoMemory ended so is = cc (sym so ∙ ended_of is)

refused_whole : {B : Type 0} (faults : B → ℕ) (n : ℕ) (ended : Ended B) → RefusesWith n ended → IfStepBlob faults (steps.Ended ended)
refused_whole faults n ends.Done so = absurd so
refused_whole faults n (ends.Refused m) so = tt
refused_whole faults n ends.Cut so = absurd so
refused_whole faults n ends.SourceFault so = absurd so
refused_whole faults n ends.SinkFault so = tt
refused_whole faults n (ends.BlobFault blob) so = absurd so
refused_whole faults n ends.Long so = absurd so
refused_whole faults n ends.NoMemory so = tt

no_blob : {B : Type 0} (faults : B → ℕ) (d : Dropped) (ended : Ended B) → BreaksWith d ended → IfStepBlob faults (steps.Ended ended)
no_blob faults dropped.Whole ended so = absurd so
no_blob faults dropped.TooLong ended so = refused_whole faults numbers.body_too_large ended so
no_blob {B} faults dropped.Cut ended so = subst (λ (e : Ended B). IfStepBlob faults (steps.Ended e)) (sym so) tt
no_blob faults dropped.Malformed ended so = refused_whole faults numbers.not_a_request ended so
no_blob {B} faults dropped.SourceFault ended so = subst (λ (e : Ended B). IfStepBlob faults (steps.Ended e)) (sym so) tt
no_blob {B} faults dropped.Long ended so = subst (λ (e : Ended B). IfStepBlob faults (steps.Ended e)) (sym so) tt
no_blob {B} faults dropped.NoMemory ended so = subst (λ (e : Ended B). IfStepBlob faults (steps.Ended e)) (sym so) tt

pub broken_causes : {B : Type 0} (source source_now sink sink_now taken : ℕ) (faults : B → ℕ) (d : Dropped) (ended : Ended B) → BreaksWith d ended
    → HasCause source source_now (d ≡ dropped.SourceFault) → (d ≡ dropped.Long → feed_limit ≤ taken) → HasCause sink sink_now (ended ≡ ends.SinkFault)
    → StepCauses source source_now sink sink_now taken faults (steps.Ended ended)
broken_causes source source_now sink sink_now taken faults d ended so read long wrote = record {
  source = record { later = read.later; rose = λ is. read.rose (source_failed d ended so is) };
  sink = record { later = wrote.later; rose = λ is. wrote.rose (ended_of is) };
  blob = no_blob faults d ended so;
  long = λ is. long (was_long d ended so is);
}

-- the same of a reply that was written, to a request that was told to go on before
not_of_source : {B : Type 0} (step : Step B) → IsAfterReply step → step ≡ steps.Ended ends.SourceFault → ⊥
not_of_source {B} step after is = subst (λ (s : Step B). IsAfterReply s) is after

not_of_length : {B : Type 0} (step : Step B) → IsAfterReply step → step ≡ steps.Ended ends.Long → ⊥
not_of_length {B} step after is = subst (λ (s : Step B). IsAfterReply s) is after

pub concluded_causes : {B : Type 0} (source source_now sink mid sink_now taken : ℕ) (faults : B → ℕ) (step : Step B) → source ≤ source_now → sink ≤ mid
    → HasCause mid sink_now (step ≡ steps.Ended ends.SinkFault) → IfStepBlob faults step → IsAfterReply step → StepCauses source source_now sink sink_now taken faults step
concluded_causes source source_now sink mid sink_now taken faults step read said wrote blob after = record {
  source = record { later = read; rose = λ is. absurd (not_of_source step after is) };
  sink = later_than sink mid sink_now (step ≡ steps.Ended ends.SinkFault) said wrote;
  blob = blob;
  long = λ is. absurd (not_of_length step after is);
}

-- the body of a request that was dropped, by the limit of the request
pub body_dropped : (p : Parts) (limit : Option ℕ) (a b : Option (List ℕ)) → limit ≡ limit_of p → OnStream a b (Drops dropped.Whole limit (body_state p))
    → (body : List ℕ) × OnStream a b (λ old new. ReadsBody (limit_of p) (body_state p) old body (within (ends_before new)))
body_dropped p limit a b limited read =
    whole_body (limit_of p) (body_state p) a b (subst (λ (l : Option ℕ). OnStream a b (Drops dropped.Whole l (body_state p))) limited read)

-- a refusal that is routed is known
pub routed_known : (p : Parts) (reply : Reply) → asked_in p ≡ Err reply → IsKnown p [] reply
routed_known p reply asked = record {
  silent = ap (λ a. goes_on a []) asked;
  looks = subst NeedsNoSession (sym asked) tt;
  may = tt;
  room = refl;
  replies_so = λ body. subst (λ a. Replies a body [] (plain reply)) (sym asked) refl;
  leaves = λ begin. leaves_none (asked_in p) begin;
}

pub known_begun : (p : Parts) (holds : List Hold) (reply : Reply) (begin : List ℕ) → IsKnown p holds reply → IsBegun (record { parts = p; begin = begin; holds = holds })
known_begun p holds reply begin known = record { may = known.may; leaves = known.leaves begin }

-- no blob is behind a refusal
pub known_replies : (p : Parts) (holds : List Hold) (reply : Reply) (bytes : List ℕ) → ((body : List ℕ) → Replies (asked_in p) body holds (plain reply)) → bytes ≡ []
    → (body : List ℕ) → Replies (asked_in p) body holds (record { reply = reply; content = bytes })
known_replies p holds reply bytes replies none body = subst (λ (c : List ℕ). Replies (asked_in p) body holds (record { reply = reply; content = c })) (sym none) (replies body)

pub not_told : (p : Parts) (holds : List Hold) → LooksFirst (asked_in p) holds → awaits p ≡ false → MaySendBody p holds
not_told p holds looks quiet = record { looks = looks; told = λ waits. absurd (false≢true (sym quiet ∙ waits)) }

pub looks_first : (asked : Asked) (holds : List Hold) → NeedsNoSession asked → LooksFirst asked holds
looks_first asked [] none = none
looks_first asked (h ∷ holds) none = tt

-- the body of an ask that adds to no upload may come, where it is told to go on
pub may_come : (p : Parts) (ask : Ask) (holds : List Hold) → asked_in p ≡ Ok ask → NeedsNoSession (asked_as ask) → goes_on (asked_in p) holds ≡ true → MaySendBody p holds
may_come p ask holds asked none goes = record { looks = looks_first (asked_in p) holds (subst NeedsNoSession (sym asked) none); told = λ _. goes }

-- ---- an ask that is answered behind its body

awaited_some : (p : Parts) (holds : List Hold) → awaits p ≡ true → goes_on (asked_in p) holds ≡ true → interim p holds ≢ []
awaited_some p holds waits goes e = cc (ap (λ a. if a then continue_line else []) (sym waits) ∙ line_is_interim p holds goes ∙ e)

-- the sink failed at the interim reply
pub unsaid_behind : {B : Type 0} (failed : Type 0) (p : Parts) (holds : List Hold) (stream left old new : Option (List ℕ)) → IsBegun (only_begun p holds)
    → awaits p ≡ true → goes_on (asked_in p) holds ≡ true → TookFront old new (line_for p)
    → Behind {B = B} failed p (line stream left old) (line stream left new) holds (steps.Ended ends.SinkFault)
unsaid_behind failed p holds stream left old new is waits goes took = (
  began (only_begun p holds),
  refl,
  record {
    done = is;
    ends = awaited_some p holds waits goes;
    read = just_begun p holds stream;
    at_end = tt;
    wrote = subst (λ (t : List ℕ). TookFront old new t) (line_is_interim p holds goes) took;
  },
)

-- what an ask says of its request
pub ask_goes : (p : Parts) (ask : Ask) (holds : List Hold) → asked_in p ≡ Ok ask → goes_on_for ask holds ≡ true → goes_on (asked_in p) holds ≡ true
ask_goes p ask holds asked told = ap (λ a. goes_on a holds) asked ∙ told

pub ask_limits : (p : Parts) (ask : Ask) → asked_in p ≡ Ok ask → Some (limit_of_ask ask) ≡ limit_of p
ask_limits p ask asked = ap limit_by (sym asked)

pub ask_replies : (p : Parts) (ask : Ask) (body : List ℕ) (holds : List Hold) (answer : Answer) → asked_in p ≡ Ok ask → RepliesTo ask body holds answer → Replies (asked_in p) body holds answer
ask_replies p ask body holds answer asked replies = subst (λ a. Replies a body holds answer) (sym asked) replies

pub ask_leaves : (p : Parts) (ask : Ask) (begin : List ℕ) (holds : List Hold) → asked_in p ≡ Ok ask → LeavesBy ask begin holds → Leaves (asked_in p) begin holds
ask_leaves p ask begin holds asked leaves = subst (λ a. Leaves a begin holds) (sym asked) leaves

-- nothing was held, and the ask is no upload's
pub begun_plainly : (p : Parts) (begin : List ℕ) → IsBegun (record { parts = p; begin = begin; holds = [] })
begun_plainly p begin = record { may = tt; leaves = leaves_none (asked_in p) begin }
